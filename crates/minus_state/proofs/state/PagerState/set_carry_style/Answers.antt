use Rattle.std.proofs.Common.{rules}
use Rattle.minus_state.proofs.state.PagerState.set_carry_style.Goals as goal

pub returns-clause-control : goal.returns-clause-control
returns-clause-control c = search rules
