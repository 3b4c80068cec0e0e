use Rattle.std.proofs.Common.{rules}
use Rattle.minus_term.proofs.event.KeyEventFromKeyCode.from.Goals as goal

pub returns : goal.returns
returns c = search rules
