use Rattle.minus_text.specs.Rows.{the_rows}
use Rattle.minus_text.proofs.rows.rows_are_determined.Goals as goal

pub returns : goal.returns
returns c = the_rows
