use Rattle.std.proofs.Common.{rules}
use Rattle.minus_state.proofs.selection.first_column.Goals as goal

pub returns-then-row-first : goal.returns-then-row-first
returns-then-row-first c = search rules
