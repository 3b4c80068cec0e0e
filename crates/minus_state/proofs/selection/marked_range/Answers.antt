use Rattle.std.proofs.Common.{rules}
use Rattle.minus_state.proofs.selection.marked_range.Goals as goal

pub returns-in-None : goal.returns-in-None
returns-in-None c = search rules
