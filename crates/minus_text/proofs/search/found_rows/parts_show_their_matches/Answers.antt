use Rattle.minus_text.proofs.RowSearchLaws.{parts_show}
use Rattle.minus_text.proofs.search.found_rows.parts_show_their_matches.Goals as goal

pub returns : goal.returns
returns c = parts_show
