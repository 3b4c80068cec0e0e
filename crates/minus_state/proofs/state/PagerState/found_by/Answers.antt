-- What is found is what the query's pattern finds, and the mark goes to its match.
use Rattle.std.proofs.Common.{ℕ, List, min, Option, Some, slice_get, refl, ap, ap₂, subst, ◌∙◌}
use Rattle.std.specs.Option.{unwrap_or}
use Rattle.regex.specs.Patterns.{Re}
use Rattle.regex.specs.Strings.{regex_pattern}
use Rattle.regex.specs.declared.string.regex.Regex.{Regex}
use Rattle.minus_text.specs.Document.{Document, rows_of}
use Rattle.minus_text.specs.Found.{RowMatches, AreFoundIn}
use Rattle.minus_text.specs.Finds.{finds}
use Rattle.minus_text.specs.Searched.{Searched}
use Rattle.minus_state.specs.Control.{Control, document_of, matches_in}
use Rattle.minus_state.specs.SearchMark.{first_match}
use Rattle.minus_state.specs.Changes.{settings_after, help_after}
use Rattle.minus_state.specs.OpenSearches.{search_after}
use Rattle.minus_state.specs.declared.change.Change.{Change}
use Rattle.minus_state.specs.States.{control_of}
use Rattle.minus_state.specs.declared.state.PagerState.{PagerState}
use Rattle.minus_state.proofs.AppendLaws.{document_is}
use Rattle.minus_state.proofs.PreviewLaws.{match_row_is}
use Rattle.minus_state.proofs.state.PagerState.found_by.Goals as goal

pub returns-clause-next : goal.returns-clause-next
returns-clause-next c = λ f.
    let s : PagerState = c.args.self.now in
    let k : Control = control_of s in
    let query : Re = regex_pattern c.args.query.value in
    let d : Document = document_of (control_of s) in
    let told = c.in_ok-findings.ensures in
    let here = document_is s f in
    let found = told.found ∙ ap (λ (r : Regex). finds (Some (regex_pattern r)) s.screen.document) c.deref.ensures ∙ ap (finds (Some query)) here in
    let seen = ap (λ (x : Searched). x.found) c.view_of-view.ensures ∙ found in
    let anew = c.search_mark_anew-search_mark.ensures ∙ ap (λ (fs : List RowMatches). first_match fs s.upper_mark) seen in
    let row = match_row_is query d _ _ _ seen c.match_row.ensures ∙ ap (slice_get (matches_in (Some query) d)) anew in
    let base = c.redrawn-change.ensures.is in
    record {
      belongs = (subst (λ (x : Document). AreFoundIn 0 (rows_of x) c.in_ok-findings.findings) here told.stand, (found, tt));
      document = refl;
      mark_is = c.min.ensures ∙ ap₂ min (c.unwrap_or-mark.ensures ∙ ap (λ (o : Option ℕ). unwrap_or o s.upper_mark) row) (c.top.ensures.value f);
      cols_are = ap (λ (x : Change). x.cols) base;
      rows_are = ap (λ (x : Change). x.rows) base;
      left_is = ap (λ (x : Change). x.left) base;
      ends_are = ap (λ (x : Change). x.ends) base;
      term_is = refl;
      search_mark_is = anew;
      settings_are = ap (settings_after k.settings) base;
      help_is = ap (λ (x : Change). help_after x.help k.help) base;
      mode_is = ap (λ (x : Change). x.mode) base;
      search_is = ap (λ (x : Change). search_after x.search k.search) base;
    }
