use Rattle.std.proofs.Common.{rules}
use Rattle.minus_state.proofs.state.PagerState.reserve.Goals as goal

pub returns-in_err-reserve-in-Some-clause-saved : goal.returns-in_err-reserve-in-Some-clause-saved
returns-in_err-reserve-in-Some-clause-saved c = search rules

pub returns-in_ok-reserve-in-Some-clause-saved : goal.returns-in_ok-reserve-in-Some-clause-saved
returns-in_ok-reserve-in-Some-clause-saved c = search rules
