-- What is found is what the term finds, and the prompt row reports the first match at the mark or behind it.
use Rattle.std.proofs.Common.{ℕ, List, Option, refl, ap, subst, ◌∙◌}
use Rattle.std.specs.Option.{option_map}
use Rattle.regex.specs.Patterns.{Re}
use Rattle.regex.specs.Strings.{regex_pattern}
use Rattle.minus_text.specs.Document.{Document, rows_of}
use Rattle.minus_text.specs.Found.{RowMatches, AreFoundIn}
use Rattle.minus_text.specs.Finds.{finds}
use Rattle.minus_text.specs.Searched.{Searched}
use Rattle.minus_state.specs.Control.{Control, document_of}
use Rattle.minus_state.specs.SearchMark.{first_match}
use Rattle.minus_state.specs.Changes.{settings_after, help_after}
use Rattle.minus_state.specs.OpenSearches.{search_after}
use Rattle.minus_state.specs.declared.change.Change.{Change}
use Rattle.minus_state.specs.States.{control_of}
use Rattle.minus_state.specs.declared.state.PagerState.{PagerState}
use Rattle.minus_state.proofs.AppendLaws.{document_is}
use Rattle.minus_state.proofs.state.PagerState.searched.Goals as goal

pub returns-clause-next : goal.returns-clause-next
returns-clause-next c = λ f.
    let s : PagerState = c.args.self.now in
    let k : Control = control_of s in
    let term : Option Re = option_map (λ t. regex_pattern t.value) c.args.term in
    let d : Document = document_of k in
    let told = c.in_ok-findings.ensures in
    let here = document_is s f in
    let is = c.searching-searched.ensures ∙ c.shared_pattern.ensures in
    let found = told.found ∙ ap (λ (t : Option Re). finds t s.screen.document) is ∙ ap (finds term) here in
    let seen = ap (λ (x : Searched). x.found) c.view_of.ensures ∙ found in
    let anew = c.search_mark_anew-search_mark.ensures ∙ ap (λ (fs : List RowMatches). first_match fs s.upper_mark) seen in
    let base = c.redrawn-change.ensures.is in
    record {
      belongs = (subst (λ (x : Document). AreFoundIn 0 (rows_of x) c.in_ok-findings.findings) here told.stand, (found, tt));
      document = refl;
      mark_is = ap (λ (x : Change). x.mark) base;
      cols_are = ap (λ (x : Change). x.cols) base;
      rows_are = ap (λ (x : Change). x.rows) base;
      left_is = ap (λ (x : Change). x.left) base;
      ends_are = ap (λ (x : Change). x.ends) base;
      term_is = refl;
      search_mark_is = anew;
      settings_are = ap (settings_after k.settings) base;
      help_is = ap (λ (x : Change). help_after x.help k.help) base;
      mode_is = ap (λ (x : Change). x.mode) base;
      search_is = ap (λ (x : Change). search_after x.search k.search) base;
    }
