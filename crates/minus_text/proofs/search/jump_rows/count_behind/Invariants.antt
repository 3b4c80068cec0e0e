use Rattle.std.proofs.Common.{◌≡◌, ◌++◌, map, take, drop}
use Rattle.minus_text.specs.JumpRows.{jump_behind}
use Rattle.minus_text.proofs.search.jump_rows.count_behind.Given as goal

abbrev pub invariant-loop-i : goal.invariant-loop-i
invariant-loop-i l = l.jumps.items ≡ map (jump_behind l.fn.matches) (take l.i l.fn.jumps.items) ++ drop l.i l.fn.jumps.items
