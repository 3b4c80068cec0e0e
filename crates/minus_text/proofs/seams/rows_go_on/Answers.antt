use Rattle.minus_text.proofs.SeamLaws.{rows_go_on}
use Rattle.minus_text.proofs.seams.rows_go_on.Goals as goal

pub returns : goal.returns
returns c = rows_go_on
