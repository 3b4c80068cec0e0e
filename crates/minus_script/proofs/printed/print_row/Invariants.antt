use Rattle.std.proofs.Common.{◌≡◌, ◌++◌, take}
use Rattle.minus_script.specs.Printed.{escaped}
use Rattle.minus_script.proofs.printed.print_row.Given as goal

abbrev pub invariant-loop-byte : goal.invariant-loop-byte
invariant-loop-byte l = l.out.items ≡ l.initial.out.items ++ escaped (take l.byte-index l.byte-items)
