-- Found by search.
use Rattle.std.proofs.Common.{rules}
use Rattle.minus_state.proofs.state.is_size.Goals as goal

pub returns-then-contains : goal.returns-then-contains
returns-then-contains c = search rules
