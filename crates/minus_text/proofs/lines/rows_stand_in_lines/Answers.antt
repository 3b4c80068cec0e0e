use Rattle.minus_text.proofs.RowHomesLaws.{rows_stand}
use Rattle.minus_text.proofs.lines.rows_stand_in_lines.Goals as goal

pub returns : goal.returns
returns c = rows_stand
