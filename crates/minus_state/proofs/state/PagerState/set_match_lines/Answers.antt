use Rattle.std.proofs.Common.{rules}
use Rattle.minus_state.proofs.state.PagerState.set_match_lines.Goals as goal

pub returns-clause-control : goal.returns-clause-control
returns-clause-control c = search rules
