use Rattle.std.proofs.Common.{rules}
use Rattle.minus_text.proofs.line_numbers.prefix_columns.Goals as goal

pub returns-then-not-numbers-clause-value : goal.returns-then-not-numbers-clause-value
returns-then-not-numbers-clause-value c = search rules
