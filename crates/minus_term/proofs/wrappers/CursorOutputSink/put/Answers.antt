use Rattle.std.proofs.Common.{rules}
use Rattle.minus_term.proofs.wrappers.CursorOutputSink.put.Goals as goal

pub returns-clause-bound : goal.returns-clause-bound
returns-clause-bound g c = search rules

pub returns-clause-bytes : goal.returns-clause-bytes
returns-clause-bytes g c = search rules
