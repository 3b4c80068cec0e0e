use Rattle.std.proofs.Common.{rules}
use Rattle.minus_state.proofs.state.PagerState.redrawn.Goals as goal

pub returns-clause-redraw : goal.returns-clause-redraw
returns-clause-redraw c = search rules
