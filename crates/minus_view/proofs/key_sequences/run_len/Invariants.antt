-- The bytes so far are in the range.
use Rattle.std.proofs.Common.{◌≡◌, ◌+◌, drop}
use Rattle.std.specs.List.{prefix_len}
use Rattle.std.specs.Int.{is_in_range}
use Rattle.minus_view.proofs.key_sequences.run_len.Given as goal

abbrev pub invariant-loop-at : goal.invariant-loop-at
invariant-loop-at l = prefix_len (is_in_range l.first l.last) l.bytes ≡ l.at + prefix_len (is_in_range l.first l.last) (drop l.at l.bytes)
