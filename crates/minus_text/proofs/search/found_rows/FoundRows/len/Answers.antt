use Rattle.std.proofs.Common.{arith}
use Rattle.minus_text.specs.FoundBy.{found_rows}
use Rattle.minus_text.proofs.JumpLaws.{count_is}
use Rattle.minus_text.proofs.search.found_rows.FoundRows.len.Goals as goal

pub returns-clause-value : goal.returns-clause-value
returns-clause-value c = omega (arith, c.len.ensures, count_is c.args.self.now.jumps.items (found_rows c.args.self.now) c.requires)
