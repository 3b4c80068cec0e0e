-- The two marks stand between three parts of the row.
use Rattle.minus_state.proofs.VisibleLaws.{marks_alone}
use Rattle.minus_state.proofs.visible.markers_alone_are_added.Goals as goal

pub returns : goal.returns
returns c = marks_alone
