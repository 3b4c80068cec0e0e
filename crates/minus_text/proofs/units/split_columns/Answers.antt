-- A run of printable ASCII, or a unit.
use Rattle.std.proofs.Common.{◌≡◌, ◌+◌, ◌++◌, ℕ, List, chars, take, length, arith, sym, ap, ◌∙◌}
use Rattle.std.specs.List.{sum_by}
use Rattle.std.proofs.lemmas.List.{take-append-drop, length-take-le}
use Rattle.minus_text.specs.Units.{units, unit_columns}
use Rattle.minus_text.proofs.MeasuredLaws.{columns_behind}
use Rattle.minus_text.proofs.units.split_columns.Goals as goal

pub returns-then-front-gt0-clause-columns : goal.returns-then-front-gt0-clause-columns
returns-then-front-gt0-clause-columns c =
    let text : List ℕ = c.args.text.now in
    let n : ℕ = c.printable_front-front.result in
    let sum : sum_by unit_columns (units (chars text)) ≡ length (take n text) + sum_by unit_columns (units (chars c.range_from.result.now)) =
    columns_behind text (take n text) c.range_from.result.now (sym (take-append-drop n text) ∙ ap (λ xs. take n text ++ xs) (sym c.range_from.ensures.value)) c.printable_front-front.ensures.printable in
    omega (arith, sum, length-take-le n text c.printable_front-front.ensures.within)
