use Rattle.std.proofs.Common.{rules}
use Rattle.minus_term.proofs.event.KeyEventStateFlags.from_bits_retain.Goals as goal

pub returns : goal.returns
returns c = search rules
