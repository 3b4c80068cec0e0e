use Rattle.std.proofs.Common.{rules}
use Rattle.minus_state.proofs.state.PagerState.left_help.Goals as goal

pub returns-in-None-clause-redraw : goal.returns-in-None-clause-redraw
returns-in-None-clause-redraw c = search rules
