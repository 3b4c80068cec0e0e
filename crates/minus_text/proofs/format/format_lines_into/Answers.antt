use Rattle.std.proofs.Common.{rules}
use Rattle.minus_text.proofs.format.format_lines_into.Goals as goal

pub returns-clause-rows : goal.returns-clause-rows
returns-clause-rows c = search rules
