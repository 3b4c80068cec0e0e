use Rattle.std.proofs.Common.{rules}
use Rattle.minus_term.proofs.event.equality.KeyEventHash.hash.Goals as goal

pub returns : goal.returns
returns g c = search rules
