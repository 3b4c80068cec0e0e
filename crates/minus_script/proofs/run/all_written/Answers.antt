use Rattle.std.proofs.Common.{rules}
use Rattle.minus_script.proofs.run.all_written.Goals as goal

pub returns-in-Ok-clause-bytes : goal.returns-in-Ok-clause-bytes
returns-in-Ok-clause-bytes c = search rules
