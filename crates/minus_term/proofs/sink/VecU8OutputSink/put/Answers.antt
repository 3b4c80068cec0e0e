use Rattle.std.proofs.Common.{rules}
use Rattle.minus_term.proofs.sink.VecU8OutputSink.put.Goals as goal

pub returns-clause-bytes : goal.returns-clause-bytes
returns-clause-bytes c = search rules
