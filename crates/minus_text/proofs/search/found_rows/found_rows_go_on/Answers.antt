use Rattle.minus_text.proofs.FindsGoOnLaws.{found_goes_on}
use Rattle.minus_text.proofs.search.found_rows.found_rows_go_on.Goals as goal

pub returns : goal.returns
returns c = found_goes_on
