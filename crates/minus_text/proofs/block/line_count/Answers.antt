-- Those that newlines end, and one more unless the text ends with one.
use Rattle.std.proofs.Common.{◌≢◌, not, [], length, arith, lit<}
use Rattle.std.proofs.lemmas.Bool.{eqb-false}
use Rattle.std.proofs.lemmas.Str.Pattern.{ends_char}
use Rattle.minus_text.proofs.LineCountLaws.{lines_counted, one_unless, bit_few}
use Rattle.minus_text.proofs.block.line_count.Goals as goal

pub returns-clause-value : goal.returns-clause-value
returns-clause-value c =
    let text = c.args.text.now in
    let filled : length text ≢ 0 = eqb-false (length text) 0 (rw c.is_empty.ensures at c.if-is_empty.false) in
    let ends = ends_char 10 text c.ends_with.result c.ends_with.ensures.cases (lit< tt) in
    let count = lines_counted [] text c.ends_with.result (omega (arith, filled)) ends.0 ends.1 in
    omega (arith, count, c.newlines.ensures.value, c.from.ensures, one_unless c.ends_with.result)

pub returns-clause-few : goal.returns-clause-few
returns-clause-few c = omega (arith, c.newlines.ensures.small, c.from.ensures, bit_few (not c.ends_with.result))
