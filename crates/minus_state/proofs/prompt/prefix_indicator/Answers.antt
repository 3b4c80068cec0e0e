use Rattle.std.proofs.Common.{rules}
use Rattle.minus_state.proofs.prompt.prefix_indicator.Goals as goal

pub returns : goal.returns
returns c = search rules
