use Rattle.std.proofs.Common.{rules}
use Rattle.minus_text.proofs.formatted.SearchFormattedRowDisplay.fmt.Goals as goal

pub returns-in-Some-clause-writes : goal.returns-in-Some-clause-writes
returns-in-Some-clause-writes c = search rules
