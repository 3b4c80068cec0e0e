use Rattle.std.proofs.Common.{rules}
use Rattle.minus_text.proofs.search.highlight.HighlightMatchesArgs.is_match.Goals as goal

pub returns : goal.returns
returns c = search rules
