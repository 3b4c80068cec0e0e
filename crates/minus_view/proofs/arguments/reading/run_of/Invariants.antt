-- The bytes so far are of these.
use Rattle.std.proofs.Common.{◌≡◌, ◌+◌, drop}
use Rattle.std.specs.List.{prefix_len}
use Rattle.minus_view.specs.OptionWords.{is_of}
use Rattle.minus_view.proofs.arguments.reading.run_of.Given as goal

abbrev pub invariant-loop-at : goal.invariant-loop-at
invariant-loop-at l = prefix_len (is_of l.class) l.bytes ≡ l.at + prefix_len (is_of l.class) (drop l.at l.bytes)
