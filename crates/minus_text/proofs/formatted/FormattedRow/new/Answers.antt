use Rattle.std.proofs.Common.{rules}
use Rattle.minus_text.proofs.formatted.FormattedRow.new.Goals as goal

pub returns-clause-prefix : goal.returns-clause-prefix
returns-clause-prefix c = search rules
