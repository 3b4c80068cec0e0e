use Rattle.std.proofs.Common.{rules}
use Rattle.minus_term.proofs.with_tty.WithTty.new.Goals as goal

pub returns-clause-refusals : goal.returns-clause-refusals
returns-clause-refusals g c = search rules

pub returns-clause-tty : goal.returns-clause-tty
returns-clause-tty g c = search rules
