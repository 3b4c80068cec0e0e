-- Found by search.
use Rattle.std.proofs.Common.{rules}
use Rattle.minus_state.proofs.state.RunMode.is_uninitialized.Goals as goal

pub returns : goal.returns
returns c = search rules
