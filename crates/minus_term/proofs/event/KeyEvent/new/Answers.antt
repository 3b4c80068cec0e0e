use Rattle.std.proofs.Common.{rules}
use Rattle.minus_term.proofs.event.KeyEvent.new.Goals as goal

pub returns : goal.returns
returns c = search rules
