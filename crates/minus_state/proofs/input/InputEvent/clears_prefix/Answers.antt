use Rattle.std.proofs.Common.{rules}
use Rattle.minus_state.proofs.input.InputEvent.clears_prefix.Goals as goal

pub returns-in-Number : goal.returns-in-Number
returns-in-Number c = search rules
