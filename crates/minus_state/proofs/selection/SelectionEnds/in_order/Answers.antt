-- Both ends in order.
use Rattle.std.proofs.Common.{rules}
use Rattle.minus_state.proofs.selection.SelectionEnds.in_order.Goals as goal

pub returns-in-Some-Some : goal.returns-in-Some-Some
returns-in-Some-Some c = search rules
