use Rattle.std.proofs.Common.{rules}
use Rattle.minus_input.proofs.help_table.named_code.Goals as goal

pub returns-in_default : goal.returns-in_default
returns-in_default c = search rules
