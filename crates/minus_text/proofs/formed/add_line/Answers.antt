-- A line that has no more bytes than the longest has columns is no longer.
use Rattle.std.proofs.Common.{arith}
use Rattle.minus_text.proofs.FewColumnsLaws.{columns_few}
use Rattle.minus_text.proofs.formed.add_line.Goals as goal

pub returns-else-line-forming-clause-longest : goal.returns-else-line-forming-clause-longest
returns-else-line-forming-clause-longest c = omega (arith, columns_few c.args.line.now c.utf8.line, c.if-line-forming.false)
