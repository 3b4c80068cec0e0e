use Rattle.std.proofs.Common.{rules}
use Rattle.minus_state.proofs.state.PagerState.line_wrapping.Goals as goal

pub returns : goal.returns
returns c = search rules
