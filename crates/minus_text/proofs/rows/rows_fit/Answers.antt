use Rattle.minus_text.proofs.RowsFitLaws.{rows_fit_lem}
use Rattle.minus_text.proofs.rows.rows_fit.Goals as goal

pub returns : goal.returns
returns c = rows_fit_lem
