use Rattle.std.proofs.Common.{rules}
use Rattle.minus_state.proofs.state.PagerState.reformat_display.Goals as goal

pub returns-clause-control : goal.returns-clause-control
returns-clause-control c = search rules

pub returns-clause-formed : goal.returns-clause-formed
returns-clause-formed c = search rules
