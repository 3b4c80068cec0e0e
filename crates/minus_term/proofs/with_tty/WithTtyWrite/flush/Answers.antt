use Rattle.std.proofs.Common.{rules}
use Rattle.minus_term.proofs.with_tty.WithTtyWrite.flush.Goals as goal

pub returns-then-is_err-clause-refusals : goal.returns-then-is_err-clause-refusals
returns-then-is_err-clause-refusals g c = search rules
