-- Marks alone are added to a row.
use Rattle.minus_state.proofs.ShownRowLaws.{markers_alone}
use Rattle.minus_state.proofs.rendering.selection_adds_markers_alone.Goals as goal

pub returns : goal.returns
returns c = markers_alone
