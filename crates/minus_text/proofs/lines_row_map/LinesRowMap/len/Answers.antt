use Rattle.std.proofs.Common.{rules}
use Rattle.minus_text.proofs.lines_row_map.LinesRowMap.len.Goals as goal

pub returns-clause-value : goal.returns-clause-value
returns-clause-value c = search rules
