use Rattle.std.proofs.Common.{◌≡◌, ◌++◌, take, map, string_bytes}
use Rattle.minus_script.specs.Printed.{printed_all}
use Rattle.minus_script.proofs.printed.print_rows.Given as goal

abbrev pub invariant-loop-row : goal.invariant-loop-row
invariant-loop-row l = l.out.items ≡ l.initial.out.items ++ printed_all (map string_bytes (take l.row-index l.rows))
