-- A row that is ended is closed.
use Rattle.minus_state.proofs.ShownRowLaws.{rows_closed}
use Rattle.minus_state.proofs.rendering.shown_rows_are_closed.Goals as goal

pub returns : goal.returns
returns c = rows_closed
