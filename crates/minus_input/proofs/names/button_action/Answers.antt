use Rattle.std.proofs.Common.{rules}
use Rattle.minus_input.proofs.names.button_action.Goals as goal

pub returns-then-is_name-8 : goal.returns-then-is_name-8
returns-then-is_name-8 c = search rules
