use Rattle.std.proofs.Common.{rules}
use Rattle.minus_text.proofs.line_numbers.LineNumbersNot.not.Goals as goal

pub returns-in-Enabled : goal.returns-in-Enabled
returns-in-Enabled c = search rules
