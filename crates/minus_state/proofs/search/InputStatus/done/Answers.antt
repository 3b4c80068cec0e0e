use Rattle.std.proofs.Common.{rules}
use Rattle.minus_state.proofs.search.InputStatus.done.Goals as goal

pub returns-in-Confirmed : goal.returns-in-Confirmed
returns-in-Confirmed c = search rules
