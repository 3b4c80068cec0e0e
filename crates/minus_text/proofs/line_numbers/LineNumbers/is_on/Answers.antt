use Rattle.std.proofs.Common.{rules}
use Rattle.minus_text.proofs.line_numbers.LineNumbers.is_on.Goals as goal

pub returns-in_default : goal.returns-in_default
returns-in_default c = search rules
