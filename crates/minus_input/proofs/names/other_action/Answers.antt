use Rattle.std.proofs.Common.{rules}
use Rattle.minus_input.proofs.names.other_action.Goals as goal

pub returns-then-is_name-2 : goal.returns-then-is_name-2
returns-then-is_name-2 c = search rules
