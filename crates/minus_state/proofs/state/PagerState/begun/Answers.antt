use Rattle.std.proofs.Common.{rules}
use Rattle.minus_state.proofs.state.PagerState.begun.Goals as goal

pub returns-in-Some-clause-next : goal.returns-in-Some-clause-next
returns-in-Some-clause-next c = search rules
