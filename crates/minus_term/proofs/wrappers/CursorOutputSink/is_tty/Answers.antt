use Rattle.std.proofs.Common.{rules}
use Rattle.minus_term.proofs.wrappers.CursorOutputSink.is_tty.Goals as goal

pub returns : goal.returns
returns g c = search rules
