-- The bytes so far are plain.
use Rattle.std.proofs.Common.{◌≡◌, ◌+◌, drop}
use Rattle.std.specs.List.{prefix_len}
use Rattle.minus_view.specs.Shown.{is_plain}
use Rattle.minus_view.proofs.prepare.plain_len.Given as goal

abbrev pub invariant-loop-at : goal.invariant-loop-at
invariant-loop-at l = prefix_len (is_plain l.newlines) l.bytes ≡ l.at + prefix_len (is_plain l.newlines) (drop l.at l.bytes)
