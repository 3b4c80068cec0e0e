use Rattle.std.proofs.Common.{rules}
use Rattle.minus_text.proofs.search.highlight.highlight_line_matches.Goals as goal

pub returns-clause-line : goal.returns-clause-line
returns-clause-line c = search rules
