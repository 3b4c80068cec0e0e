-- A row in which nothing was found, and to which no style is carried, is shown as its text.
use Rattle.std.proofs.Common.{◌≡◌, ℕ, List, ◌++◌, [], Option, Some, None, option_map, sym, ap, ◌∙◌}
use Rattle.std.specs.List.{slice_get}
use Rattle.minus_text.specs.declared.row_text.RowText.{RowText}
use Rattle.minus_text.specs.Document.{rows_of}
use Rattle.minus_text.specs.Found.{RowMatches, marked, found_of_row}
use Rattle.minus_text.specs.CarriedStyles.{carried_style}
use Rattle.minus_text.specs.Searched.{Searched}
use Rattle.minus_text.specs.Views.{viewed}
use Rattle.minus_text.proofs.SearchedLaws.{found_behind}
use Rattle.minus_text.proofs.view.RowsView.unmatched.Goals as goal

pub returns-in-None : goal.returns-in-None
returns-in-None c =
    let s : Searched = viewed c.args.self in
    let text = c.in_ok-row.row.text.now in
    let there : slice_get (rows_of s.document) c.args.i ≡ Some text = sym c.row_text.ensures ∙ ap (option_map (λ (r : RowText). r.text.now)) c.in_ok-row.was in
    let none : found_of_row c.args.i s.found ≡ None = sym c.found_at.ensures.found ∙ sym c.in-None.ensures in
    let style : carried_style s.document c.args.i ≡ [] = sym c.style_source.ensures ∙ c.is_plain.ensures c.if-not-is_plain.false in
    let row = ap (λ (o : Option RowMatches). marked o text) (sym none) in
    found_behind s c.args.i text [] text there (row ∙ ap (λ (t : List ℕ). t ++ marked (found_of_row c.args.i s.found) text) (sym style))
