-- What is cropped fits.
use Rattle.minus_state.proofs.ShownRowLaws.{rows_fit}
use Rattle.minus_state.proofs.rendering.shown_rows_fit.Goals as goal

pub returns : goal.returns
returns c = rows_fit
