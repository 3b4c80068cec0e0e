-- The control's document is pushed, and the search mark follows.
use Rattle.std.proofs.Common.{◌≡◌, ℕ, List, Bool, Option, ◌==◌, ◌++◌, string_bytes, if◌then◌else◌, refl, sym, subst, ap, ap₂, ◌∙◌}
use Rattle.regex.specs.Patterns.{Re}
use Rattle.minus_text.specs.declared.line_numbers.LineNumbers.{LineNumbers}
use Rattle.minus_text.specs.Document.{Document, margin_in, pushed}
use Rattle.minus_text.specs.Finds.{finds}
use Rattle.minus_text.specs.Pending.{IsPending, SearchesAlike}
use Rattle.minus_text.specs.Searched.{Searched, SearchedPush, IsFoundBy, IsFoundInPush}
use Rattle.minus_state.specs.declared.change.NextText.{NextText}
use Rattle.minus_state.specs.declared.change.NextText.TheVariants.{Pushed}
use Rattle.minus_state.specs.declared.change.Redraw.TheVariants.{Appended, Whole}
use Rattle.minus_state.specs.declared.state.PagerState.{PagerState}
use Rattle.minus_state.specs.Control.{Control, document_of}
use Rattle.minus_state.specs.Changes.{settings_after, help_after}
use Rattle.minus_state.specs.OpenSearches.{search_after}
use Rattle.minus_state.specs.declared.change.Change.{Change}
use Rattle.minus_state.specs.NextTexts.{IsNext}
use Rattle.minus_state.specs.States.{control_of}
use Rattle.minus_state.proofs.AppendLaws.{document_is, keeps_by_margin, search_mark_is}
use Rattle.minus_state.proofs.ChangeLaws.{found_next}
use Rattle.minus_state.proofs.state.PagerState.appended.Goals as goal

pub returns-clause-next : goal.returns-clause-next
returns-clause-next c = λ f.
    let state : PagerState = c.args.self.now in
    let k : Control = control_of state in
    let bytes : List ℕ = string_bytes c.args.text in
    let pending : SearchedPush = c.in_ok-formed.formed.value in
    let made : SearchedPush = c.in_ok-pending.pending in
    let is : pending ≡ made = c.in_ok-formed.ensures in
    let told = c.in_ok-pending.ensures in
    let text : NextText = Pushed c.args.text c.in_ok-formed.formed in
    let own = subst (λ (p : SearchedPush). IsPending state.screen.document bytes p.push.numbers p.push.cols p.push) (sym is) (subst (λ (b : List ℕ). IsPending state.screen.document b made.push.numbers made.push.cols made.push) c.deref.ensures told.own) in
    let old : IsFoundBy k.term state.screen = subst (λ (x : Searched). IsFoundBy k.term x) (sym f.screen) refl in
    let fresh : IsFoundInPush k.term pending = subst (λ (p : SearchedPush). IsFoundInPush k.term p) (sym is) (subst (λ (t : Option Re). IsFoundInPush t made) c.searching-term.ensures told.found) in
    let alike : SearchesAlike k.term state.screen.document pending.push = subst (λ (p : SearchedPush). SearchesAlike k.term state.screen.document p.push) (sym is) (subst (λ (t : Option Re). SearchesAlike t state.screen.document made.push) c.searching-term.ensures told.alike) in
    let next : IsNext k.term state.screen text = (own, ((old, fresh), alike)) in
    let after : Document = document_of (record k { text = k.text ++ bytes }) in
    let document : pushed (document_of k) bytes pending.push.numbers pending.push.cols ≡ after = ap (λ (p : SearchedPush). pushed (document_of k) bytes p.push.numbers p.push.cols) is ∙ ap₂ (λ (n : LineNumbers) (m : ℕ). pushed (document_of k) bytes n m) told.ok.its_numbers told.ok.its_cols in
    let here = ap (λ (d : Document). pushed d bytes pending.push.numbers pending.push.cols) (document_is state f) ∙ document in
    let keeps = c.keeps_rows-keeps_rows.ensures ∙ ap₂ (λ (a b : Document). margin_in a == margin_in b) here (document_is state f) ∙ sym (keeps_by_margin k bytes) in
    let found = ap (λ (x : Searched). x.found) c.view.ensures ∙ found_next k.term state.screen text next ∙ ap (finds k.term) here in
    let base = c.redrawn-change.ensures.is in
    record {
      belongs = subst (λ (x : Searched). IsNext k.term x text) f.screen next;
      document = document;
      mark_is = ap (λ (x : Change). x.mark) base;
      cols_are = ap (λ (x : Change). x.cols) base;
      rows_are = ap (λ (x : Change). x.rows) base;
      left_is = ap (λ (x : Change). x.left) base;
      ends_are = ap (λ (x : Change). x.ends) base;
      term_is = refl;
      search_mark_is = search_mark_is k bytes _ _ _ keeps found c.search_mark_behind.ensures;
      settings_are = ap (settings_after k.settings) base;
      help_is = ap (λ (x : Change). help_after x.help k.help) base;
      mode_is = ap (λ (x : Change). x.mode) base;
      search_is = ap (λ (x : Change). search_after x.search k.search) base;
    }

pub returns-clause-redraw : goal.returns-clause-redraw
returns-clause-redraw c = λ f.
    let state : PagerState = c.args.self.now in
    let k : Control = control_of state in
    let bytes : List ℕ = string_bytes c.args.text in
    let pending : SearchedPush = c.in_ok-formed.formed.value in
    let made : SearchedPush = c.in_ok-pending.pending in
    let is : pending ≡ made = c.in_ok-formed.ensures in
    let told = c.in_ok-pending.ensures in
    let here = ap (λ (d : Document). pushed d bytes pending.push.numbers pending.push.cols) (document_is state f) ∙ ap (λ (p : SearchedPush). pushed (document_of k) bytes p.push.numbers p.push.cols) is ∙ ap₂ (λ (n : LineNumbers) (m : ℕ). pushed (document_of k) bytes n m) told.ok.its_numbers told.ok.its_cols in
    let keeps = c.keeps_rows-keeps_rows.ensures ∙ ap₂ (λ (a b : Document). margin_in a == margin_in b) here (document_is state f) ∙ sym (keeps_by_margin k bytes) in
    c.redrawn-change.ensures.redraw ∙ c.append_redraw.ensures ∙ ap (λ (b : Bool). if b then Appended else Whole) keeps
