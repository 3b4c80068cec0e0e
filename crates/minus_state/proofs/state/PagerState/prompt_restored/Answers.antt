-- Found by search.
use Rattle.std.proofs.Common.{rules}
use Rattle.minus_state.proofs.state.PagerState.prompt_restored.Goals as goal

pub returns-in-None-clause-next : goal.returns-in-None-clause-next
returns-in-None-clause-next c = search rules
