use Rattle.std.proofs.Common.{rules}
use Rattle.minus_script.proofs.script.parse_switch.Goals as goal

pub returns-in-off : goal.returns-in-off
returns-in-off c = search rules
