use Rattle.std.proofs.Common.{◌≡◌, map, take}
use Rattle.minus_text.specs.JumpRows.{numbers_with}
use Rattle.minus_text.proofs.JumpLaws.{row_of}
use Rattle.minus_text.proofs.search.jump_rows.add_numbers.Given as goal

abbrev pub invariant-loop-jump : goal.invariant-loop-jump
invariant-loop-jump l = l.numbers.keys ≡ numbers_with (map row_of (take l.jump-index l.jumps)) l.fn.numbers.keys
