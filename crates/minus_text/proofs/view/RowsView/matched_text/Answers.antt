-- The row's text, and what was found in it.
use Rattle.std.proofs.Common.{◌≡◌, ℕ, List, Option, Some, option_map, sym, subst, ap, ◌∙◌}
use Rattle.std.specs.List.{slice_get}
use Rattle.minus_text.specs.declared.row_text.RowText.{RowText}
use Rattle.minus_text.specs.Document.{rows_of}
use Rattle.minus_text.specs.Found.{RowMatches, found_of_row, IsPlacedSome}
use Rattle.minus_text.specs.Finds.{finds}
use Rattle.minus_text.specs.ShownMatches.{marked_within}
use Rattle.minus_text.specs.Views.{viewed}
use Rattle.minus_text.proofs.FoundInLaws.{placed_some}
use Rattle.minus_text.proofs.view.RowsView.matched_text.Goals as goal

pub invariant_of-result : goal.invariant_of-result
invariant_of-result c =
    let text = c.in-Some.text.text.now in
    let there : slice_get (rows_of (viewed c.args.self).document) c.args.i ≡ Some text = sym c.row_text.ensures ∙ ap (option_map (λ (r : RowText). r.text.now)) c.in-Some.is in
    let stands = placed_some text _ (c.found_at.ensures.placed text there) in
    record { placed = subst (IsPlacedSome text) (sym c.of_row-found.ensures) stands }

pub returns : goal.returns
returns c = λ term left width h.
    let text : List ℕ = c.in-Some.text.text.now in
    let there : slice_get (rows_of (viewed c.args.self).document) c.args.i ≡ Some text = sym c.row_text.ensures ∙ ap (option_map (λ (r : RowText). r.text.now)) c.in-Some.is in
    let shown = ap (λ (o : Option RowMatches). marked_within left width o text) (c.of_row-found.ensures ∙ c.found_at.ensures.found ∙ h) in
    ap (λ (t : List ℕ). Some t) shown ∙ sym (ap (option_map (marked_within left width (found_of_row c.args.i (finds term (viewed c.args.self).document)))) there)
