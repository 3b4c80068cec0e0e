use Rattle.std.proofs.Common.{rules}
use Rattle.minus_text.proofs.lines_row_map.LinesRowMap.append.Goals as goal

pub returns-clause-emptied : goal.returns-clause-emptied
returns-clause-emptied c = search rules
