use Rattle.std.proofs.Common.{rules}
use Rattle.minus_input.proofs.names.is_name.Goals as goal

pub returns : goal.returns
returns c = search rules
