use Rattle.std.proofs.Common.{rules}
use Rattle.minus_state.proofs.selection.visible_at.Goals as goal

pub returns : goal.returns
returns c = search rules
