-- The rest of the line has no more columns than bytes.
use Rattle.std.proofs.Common.{rules, ◌-◌, length, ap, arith}
use Rattle.std.proofs.lemmas.List.{length-drop}
use Rattle.minus_text.proofs.FewColumnsLaws.{columns_few}
use Rattle.minus_text.proofs.formed.begin_line.Goals as goal

pub overflow_add-forming : goal.overflow_add-forming
overflow_add-forming c =
    let rest = c.range_from-unmeasured.ensures.value in
    let few = columns_few c.range_from-unmeasured.result.now c.range_from-unmeasured.utf8 in
    omega (arith, few, ap length rest, length-drop (c.args.start.border.bytes - c.args.start.bytes) c.args.line.now, c.requires.columns, c.columns.ensures)

pub returns : goal.returns
returns c = search rules
