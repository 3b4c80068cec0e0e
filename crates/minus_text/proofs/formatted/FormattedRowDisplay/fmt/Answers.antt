use Rattle.std.proofs.Common.{rules}
use Rattle.minus_text.proofs.formatted.FormattedRowDisplay.fmt.Goals as goal

pub returns-clause-writes : goal.returns-clause-writes
returns-clause-writes c = search rules
