-- Without a number the row is its text.
use Rattle.std.proofs.Common.{◌≡◌, [], false, sym, ap, ◌∙◌}
use Rattle.minus_text.specs.NumberPrefix.{is_on}
use Rattle.minus_text.specs.declared.layout.Layout.{Layout}
use Rattle.minus_text.specs.Searched.{Searched}
use Rattle.minus_text.specs.Views.{viewed}
use Rattle.minus_text.proofs.SearchedLaws.{stored_behind}
use Rattle.minus_text.proofs.StoredKeptLaws.{nothing_before}
use Rattle.minus_text.proofs.view.RowsView.plain_row.Goals as goal

pub returns : goal.returns
returns c =
    let s : Searched = viewed c.args.self in
    let off : is_on s.document.layout.numbers ≡ false = ap (λ (l : Layout). is_on l.numbers) (sym c.layout.ensures) ∙ sym c.is_on.ensures ∙ c.if-is_on.false in
    λ term found. c.in_ok-row.ensures term found ∙ stored_behind term s.document c.args.i [] (nothing_before s.document c.args.i off)
