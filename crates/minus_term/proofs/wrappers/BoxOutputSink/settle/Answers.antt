use Rattle.std.proofs.Common.{rules}
use Rattle.minus_term.proofs.wrappers.BoxOutputSink.settle.Goals as goal

pub returns-clause-counted : goal.returns-clause-counted
returns-clause-counted g c = search rules
