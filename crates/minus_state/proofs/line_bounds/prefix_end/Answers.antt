-- With no numbers there is no prefix.
use Rattle.std.proofs.Common.{arith, rules}
use Rattle.std.proofs.lemmas.Str.{IsCharBoundary-start}
use Rattle.minus_state.proofs.line_bounds.prefix_end.Goals as goal

pub returns-else-numbers : goal.returns-else-numbers
returns-else-numbers c = rw c.if-numbers.false (record { within = omega arith; cut = IsCharBoundary-start c.args.line.now c.utf8.line; last = λ other l m. absurd (omega (arith, l, m)) })

pub returns-then-numbers : goal.returns-then-numbers
returns-then-numbers c = search rules
