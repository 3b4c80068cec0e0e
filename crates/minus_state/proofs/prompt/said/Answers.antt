use Rattle.std.proofs.Common.{rules}
use Rattle.minus_state.proofs.prompt.said.Goals as goal

pub returns-in-Some-clause-style : goal.returns-in-Some-clause-style
returns-in-Some-clause-style c = search rules
