use Rattle.std.proofs.Common.{rules}
use Rattle.minus_input.proofs.names.moving_key.Goals as goal

pub returns-then-is_name-5 : goal.returns-then-is_name-5
returns-then-is_name-5 c = search rules
