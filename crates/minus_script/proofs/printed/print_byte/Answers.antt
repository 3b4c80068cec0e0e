use Rattle.std.proofs.Common.{rules}
use Rattle.minus_script.proofs.printed.print_byte.Goals as goal

pub returns-in_ok-extend_from_slice-in-27-clause-ok : goal.returns-in_ok-extend_from_slice-in-27-clause-ok
returns-in_ok-extend_from_slice-in-27-clause-ok c = search rules
