use Rattle.std.proofs.Common.{rules}
use Rattle.minus_term.proofs.event.KeyModifiersFlags.from_bits_retain.Goals as goal

pub returns : goal.returns
returns c = search rules
