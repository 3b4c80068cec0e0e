use Rattle.std.proofs.Common.{rules}
use Rattle.minus_term.proofs.event.equality.KeyEventPartialEq.eq.Goals as goal

pub returns : goal.returns
returns c = search rules
