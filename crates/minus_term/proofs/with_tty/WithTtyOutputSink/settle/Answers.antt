use Rattle.std.proofs.Common.{rules}
use Rattle.minus_term.proofs.with_tty.WithTtyOutputSink.settle.Goals as goal

pub returns-clause-counted : goal.returns-clause-counted
returns-clause-counted g c = search rules

pub returns-clause-refusals : goal.returns-clause-refusals
returns-clause-refusals g c = search rules
