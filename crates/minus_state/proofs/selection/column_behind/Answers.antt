use Rattle.std.proofs.Common.{rules}
use Rattle.minus_state.proofs.selection.column_behind.Goals as goal

pub returns-then-row-last : goal.returns-then-row-last
returns-then-row-last c = search rules
