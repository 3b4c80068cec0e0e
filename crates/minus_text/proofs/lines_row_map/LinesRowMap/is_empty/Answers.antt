use Rattle.std.proofs.Common.{rules}
use Rattle.minus_text.proofs.lines_row_map.LinesRowMap.is_empty.Goals as goal

pub returns : goal.returns
returns c = search rules
