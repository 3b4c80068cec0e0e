use Rattle.std.proofs.Common.{rules}
use Rattle.minus_state.proofs.state.PagerState.may_shift.Goals as goal

pub returns-then-left-self : goal.returns-then-left-self
returns-then-left-self c = search rules

pub returns-else-left-self : goal.returns-else-left-self
returns-else-left-self c = search rules
