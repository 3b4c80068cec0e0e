-- The rows from the mark on, as far as the page has room.
use Rattle.std.proofs.Common.{◌≡◌, ◌+◌, ◌-◌, ◌≤◌, ℕ, length, min, Some, take, drop, sym, subst, ap, ◌∙◌, arith}
use Rattle.regex.specs.Patterns.{Re}
use Rattle.regex.specs.Strings.{regex_pattern}
use Rattle.minus_text.specs.Document.{Document, rows_of}
use Rattle.minus_text.specs.Searched.{Searched, IsFoundBetween}
use Rattle.minus_text.specs.Views.{viewed}
use Rattle.minus_state.specs.Control.{Control, document_of, searched_for}
use Rattle.minus_state.specs.ClampedMark.{clamp}
use Rattle.minus_state.specs.Page.{shown_of}
use Rattle.minus_state.specs.Selection.{ends_in_order}
use Rattle.minus_state.specs.ShownRow.{shown_rows}
use Rattle.minus_state.specs.States.{control_of}
use Rattle.minus_state.specs.declared.selection.SelectionEnds.{SelectionEnds}
use Rattle.minus_state.specs.declared.state.PagerState.{PagerState}
use Rattle.minus_state.proofs.AppendLaws.{document_is}
use Rattle.minus_state.proofs.ShownRowsLaws.{shown_rows_from}
use Rattle.minus_state.proofs.search.preview.rows_found_at.Goals as goal

pub returns : goal.returns
returns c = λ f.
    let s : PagerState = c.args.state.now in
    let k : Control = control_of s in
    let query : Re = regex_pattern c.args.query.now in
    let d : Document = document_of k in
    let after : Control = clamp (record (searched_for k (Some query)) { mark = c.args.row }) in
    let here = document_is s f in
    let mark : c.min-mark.result ≡ after.mark = c.min-mark.ensures ∙ ap (min c.args.row) (c.top.ensures.value f) in
    let end : c.saturating_add-end.result ≡ c.min-mark.result + (k.rows - 1) = omega (arith, c.saturating_add-end.ensures, c.min-mark.ensures, c.top.ensures.few, s.sized.few_rows) in
    let within : c.min-mark.result ≤ length (rows_of d) = omega (arith, c.min-mark.ensures, c.top.ensures.value f) in
    let found : IsFoundBetween (Some query) (viewed c.view_of.result) c.min-mark.result c.saturating_add-end.result =
    subst (λ (x : Searched). IsFoundBetween (Some query) x c.min-mark.result c.saturating_add-end.result) (sym c.view_of.ensures) c.in_ok-findings.ensures.found in
    c.in_ok-rows.ensures (Some query) found
    ∙ ap (λ (x : Searched). shown_rows (Some query) x.document k.left (ends_in_order c.ends.result) c.min-mark.result c.saturating_add-end.result) c.view_of.ensures
    ∙ ap (λ (x : Document). shown_rows (Some query) x k.left (ends_in_order c.ends.result) c.min-mark.result c.saturating_add-end.result) here
    ∙ ap (λ (e : SelectionEnds). shown_rows (Some query) d k.left (ends_in_order e) c.min-mark.result c.saturating_add-end.result) c.ends.ensures
    ∙ ap (λ (n : ℕ). shown_rows (Some query) d k.left (ends_in_order k.ends) c.min-mark.result n) end
    ∙ shown_rows_from (Some query) d k.left (ends_in_order k.ends) c.min-mark.result (k.rows - 1) within
    ∙ ap (λ (m : ℕ). take (k.rows - 1) (drop m (shown_of (Some query) d k.left k.ends))) mark
