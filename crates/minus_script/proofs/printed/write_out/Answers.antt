use Rattle.std.proofs.Common.{rules}
use Rattle.minus_script.proofs.printed.write_out.Goals as goal

pub returns-in-Err-flush-clause-fault : goal.returns-in-Err-flush-clause-fault
returns-in-Err-flush-clause-fault g c = search rules
