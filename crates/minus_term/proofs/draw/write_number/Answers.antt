-- A number below 100,000 has at most five digits.
use Rattle.std.proofs.Common.{rules, arith}
use Rattle.std.proofs.lemmas.Fmt.{length-decimal-le}
use Rattle.minus_term.proofs.draw.write_number.Goals as goal

pub write_digits-requires : goal.write_digits-requires
write_digits-requires c = search (rules, length-decimal-le 5)

pub returns-clause-at : goal.returns-clause-at
returns-clause-at c = omega (arith, c.write_digits.ensures.start, length-decimal-le 5 c.args.n (omega arith) c.requires.few (omega (arith, c.requires.few)))
