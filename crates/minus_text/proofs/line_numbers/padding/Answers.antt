-- The digits and six more.
use Rattle.std.proofs.Common.{arith}
use Rattle.minus_text.specs.NumberPrefix.{padding}
use Rattle.minus_text.proofs.line_numbers.padding.Goals as goal

pub returns-clause-value : goal.returns-clause-value
unfolding padding
returns-clause-value c = omega (arith, c.digits.ensures.value)
