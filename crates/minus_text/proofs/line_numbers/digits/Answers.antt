use Rattle.std.proofs.Common.{arith}
use Rattle.minus_text.proofs.DigitsLaws.{length-decimal_power, length-decimal_digit}
use Rattle.minus_text.proofs.line_numbers.digits.Goals as goal

pub returns-in-Some-clause-value : goal.returns-in-Some-clause-value
returns-in-Some-clause-value c =
    let is = c.in-Some.ensures in
    omega (arith, length-decimal_power c.in-Some.power c.args.number is.power_le is.next_power_gt (omega arith))

pub returns-in-None-clause-value : goal.returns-in-None-clause-value
returns-in-None-clause-value c =
    let is = c.in-None.ensures in
    omega (arith, length-decimal_digit c.args.number (omega (arith, is.none)))
