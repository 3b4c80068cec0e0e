use Rattle.std.proofs.Common.{rules}
use Rattle.minus_script.proofs.arguments.parse_mode.Goals as goal

pub returns-in_default : goal.returns-in_default
returns-in_default c = search rules
