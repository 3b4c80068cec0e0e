use Rattle.std.proofs.Common.{rules}
use Rattle.minus_text.proofs.formatted.search_row.Goals as goal

pub returns-clause-matches : goal.returns-clause-matches
returns-clause-matches c = search rules
