use Rattle.std.proofs.Common.{rules}
use Rattle.minus_state.proofs.selection.Selection.in_order.Goals as goal

pub returns-else-comes_first : goal.returns-else-comes_first
returns-else-comes_first c = search rules
