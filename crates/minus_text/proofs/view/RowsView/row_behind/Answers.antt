-- The row's text with what was found in it, behind the style that is carried to it.
use Rattle.std.proofs.Common.{◌++◌, ◌∙◌, sym, subst, ap}
use Rattle.minus_text.specs.Formatted.{prefix_of}
use Rattle.minus_text.specs.Found.{marked, found_of_row, IsPlacedSome}
use Rattle.minus_text.specs.Searched.{Searched}
use Rattle.minus_text.specs.StyleSources.{source_style}
use Rattle.minus_text.specs.Views.{viewed}
use Rattle.minus_text.proofs.FoundInLaws.{placed_some}
use Rattle.minus_text.proofs.SearchedLaws.{found_behind}
use Rattle.minus_text.proofs.view.RowsView.row_behind.Goals as goal

pub invariant_of-result : goal.invariant_of-result
invariant_of-result c =
    let text = c.in-Some.row.now in
    let stands = placed_some text _ (c.found_at.ensures.placed text (sym c.in-Some.ensures)) in
    record { placed = subst (IsPlacedSome text) (sym c.of_row-found.ensures) stands }

pub returns : goal.returns
returns c =
    let before = prefix_of c.args.prefix in
    let text = c.in-Some.row.now in
    let s : Searched = viewed c.args.self in
    let shown = ap (λ o. before ++ source_style c.style_source.result ++ marked o text) (c.of_row-found.ensures ∙ c.found_at.ensures.found) in
    let style = ap (λ t. before ++ t ++ marked (found_of_row c.args.i s.found) text) c.style_source.ensures in
    found_behind s c.args.i text before _ (sym c.in-Some.ensures) (shown ∙ style)
