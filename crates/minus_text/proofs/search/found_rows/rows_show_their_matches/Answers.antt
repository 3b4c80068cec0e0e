use Rattle.minus_text.proofs.RowSearchLaws.{rows_show}
use Rattle.minus_text.proofs.search.found_rows.rows_show_their_matches.Goals as goal

pub returns : goal.returns
returns c = rows_show
