use Rattle.std.proofs.Common.{rules}
use Rattle.minus_input.proofs.names.function_key.Goals as goal

pub returns-then-is_name-12 : goal.returns-then-is_name-12
returns-then-is_name-12 c = search rules
