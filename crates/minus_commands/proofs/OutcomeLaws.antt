-- The result of a request, once its change is finished.
use Rattle.std.proofs.Common.{◌≡◌, ℕ, ◌-◌, min, length, List, [], Some, String, Global, string_bytes, refl, sym, ap, subst, ◌∙◌}
use Rattle.minus_text.specs.Document.{Document, rows_of}
use Rattle.minus_state.specs.declared.change.Change.{Change}
use Rattle.minus_state.specs.declared.search.open_search.SearchChange.TheVariants as searches
use Rattle.minus_state.specs.declared.state.PagerState.{PagerState}
use Rattle.minus_state.specs.Changes.{IsChange, settings_after}
use Rattle.minus_state.specs.Control.{Control, Settings, document_of}
use Rattle.minus_state.specs.ClampedMark.{clamp}
use Rattle.minus_state.specs.NextTexts.{next_document}
use Rattle.minus_state.specs.Sizes.{IsSize}
use Rattle.minus_state.specs.States.{control_of, IsFormed}
use Rattle.minus_state.proofs.ChangeLaws.{document_next}
use Rattle.minus_term.specs.Refusals.{Refusal, for_memory}
use Rattle.minus_commands.specs.Outcomes.{MemoryOr}

-- the mark after a change, at most the one at which its last page is full
abbrev clamped_mark : PagerState → Change → ℕ
clamped_mark s change = min change.mark (length (rows_of (next_document s.screen.document change.text)) - (change.rows - 1))

-- a change whose mark was clamped
pub clamped_change : (s : PagerState) (change after : Change) (new : Control) → IsFormed s → IsChange (control_of s) change new → after ≡ record change { mark = clamped_mark s change } → IsChange (control_of s) after (clamp new)
clamped_change s change after new formed h e =
    let mark : clamped_mark s change ≡ (clamp new).mark =
    ap (λ (n : ℕ). min n (length (rows_of (next_document s.screen.document change.text)) - (change.rows - 1))) h.mark_is
    ∙ ap (λ (d : Document). min new.mark (length (rows_of d) - (change.rows - 1))) (document_next s change new formed h)
    ∙ ap (λ (n : ℕ). min new.mark (length (rows_of (document_of new)) - (n - 1))) h.rows_are in
    subst (λ (x : Change). IsChange (control_of s) x (clamp new)) (sym e) (record {
      belongs = h.belongs;
      document = h.document;
      mark_is = mark;
      cols_are = h.cols_are;
      rows_are = h.rows_are;
      left_is = h.left_is;
      ends_are = h.ends_are;
      term_is = h.term_is;
      search_mark_is = h.search_mark_is;
      settings_are = h.settings_are;
      help_is = h.help_is;
      mode_is = h.mode_is;
      search_is = h.search_is;
    })

-- a change with another mark
remarked : (s : PagerState) (change after : Change) (new : Control) (mark : ℕ) (sized : IsSize change.cols change.rows) → IsChange (control_of s) change new → after ≡ record change { mark = mark; sized = sized } → IsChange (control_of s) after (let r : Control = record new { mark = mark } in r)
remarked s change after new mark sized h e = subst (λ (x : Change). IsChange (control_of s) x (let r : Control = record new { mark = mark } in r)) (sym e) (record {
  belongs = h.belongs;
  document = h.document;
  mark_is = refl;
  cols_are = h.cols_are;
  rows_are = h.rows_are;
  left_is = h.left_is;
  ends_are = h.ends_are;
  term_is = h.term_is;
  search_mark_is = h.search_mark_is;
  settings_are = h.settings_are;
  help_is = h.help_is;
  mode_is = h.mode_is;
  search_is = h.search_is;
})

-- whose mark is clamped then
pub moved_leads : (s : PagerState) (change : Change) (mark : ℕ) (sized : IsSize change.cols change.rows) (after : Change) (moved new : Control) → IsFormed s → IsChange (control_of s) change moved → (let r : Control = record moved { mark = mark } in r) ≡ new
    → (let x : Change = record change { mark = mark; sized = sized } in after ≡ record x { mark = clamped_mark s x }) → IsChange (control_of s) after (clamp new)
moved_leads s change mark sized after moved new formed h is e =
    let x : Change = record change { mark = mark; sized = sized } in
    clamped_change s x after new formed (subst (λ (k : Control). IsChange (control_of s) x k) is (remarked s change x moved mark sized h refl)) e

-- a change that leaves the search prompt as it is
pub unsearched : (c : Control) (change : Change) (new : Control) (sized : IsSize change.cols change.rows) → IsChange c change new → IsChange c (record change { search = searches.Stays; sized = sized }) (let r : Control = record new { search = c.search } in r)
unsearched c change new sized h = record {
  belongs = h.belongs;
  document = h.document;
  mark_is = h.mark_is;
  cols_are = h.cols_are;
  rows_are = h.rows_are;
  left_is = h.left_is;
  ends_are = h.ends_are;
  term_is = h.term_is;
  search_mark_is = h.search_mark_is;
  settings_are = h.settings_are;
  help_is = h.help_is;
  mode_is = h.mode_is;
  search_is = refl;
}

-- what is set after a change, and no prefix is typed
pub cleared_settings : (before : Settings) (change : Change) (new : Settings) (none : String Global) → string_bytes none ≡ [] → settings_after before change ≡ new → (let x : Change = record change { prefix = Some none } in settings_after before x) ≡ record new { prefix = [] }
cleared_settings before change new none empty is =
    ap (λ (s : Settings). let r : Settings = record s { prefix = string_bytes none } in r) is ∙ ap (λ (p : List ℕ). let r : Settings = record new { prefix = p } in r) empty

-- why it is so since memory ran out, or for this, it is since memory ran out, or for that
pub memory_or : {A B : Refusal → Type 0} (refusal : Refusal) → ((r : Refusal) → A r → B r) → MemoryOr A refusal → MemoryOr B refusal
memory_or for_memory so h = tt
memory_or refusal so h = so refusal h
