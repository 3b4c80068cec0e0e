use Rattle.std.proofs.Common.{rules}
use Rattle.minus_input.proofs.help_table.format_code.Goals as goal

pub returns-in-F : goal.returns-in-F
returns-in-F c = search rules

pub returns-in-Char-eq32 : goal.returns-in-Char-eq32
returns-in-Char-eq32 c = search rules
