use Rattle.std.proofs.Common.{rules}
use Rattle.minus_term.proofs.wrappers.BoxOutputSink.is_tty.Goals as goal

pub returns : goal.returns
returns g c = search rules
