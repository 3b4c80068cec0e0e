use Rattle.std.proofs.Common.{rules}
use Rattle.minus_term.proofs.with_tty.WithTtyOutputSink.put.Goals as goal

pub returns-clause-tty : goal.returns-clause-tty
returns-clause-tty g c = search rules

pub returns-clause-bytes : goal.returns-clause-bytes
returns-clause-bytes g c = search rules

pub returns-clause-counted : goal.returns-clause-counted
returns-clause-counted g c = search rules

pub returns-clause-refusals : goal.returns-clause-refusals
returns-clause-refusals g c = search rules
