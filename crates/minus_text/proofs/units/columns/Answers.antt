-- The body's units and the spaces after it.
use Rattle.std.proofs.Common.{length, ap, arith, sym, ◌∙◌}
use Rattle.std.specs.List.{sum_by}
use Rattle.minus_text.specs.Units.{units, unit_columns, text_columns, columns}
use Rattle.minus_text.proofs.PlainLaws.{columns_plain}
use Rattle.minus_text.proofs.BorderLaws.{columns_unescaped}
use Rattle.minus_text.proofs.units.columns.Goals as goal

pub returns : goal.returns
unfolding columns text_columns
returns c =
    let body = c.without_spaces-body.ensures.body in
    let spaces = c.without_spaces-body.ensures.spaces in
    let room = c.without_spaces-body.ensures.room in
    let sum = c.units_columns.ensures.value ∙ ap (λ cs. sum_by unit_columns (units cs)) body in
    let size = ap length body in
    omega (arith, sum, size, spaces, room)

pub returns-then-is_printable : goal.returns-then-is_printable
returns-then-is_printable c = sym (columns_plain c.args.text.now (sym c.is_printable.ensures ∙ c.if-is_printable.true))

pub returns-then-is_unescaped : goal.returns-then-is_unescaped
returns-then-is_unescaped c = c.chars_columns.ensures ∙ sym (columns_unescaped c.args.text.now c.utf8.text (sym c.is_unescaped.ensures ∙ c.if-is_unescaped.true))
