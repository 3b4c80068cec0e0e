-- No newline stands behind the place that is reached.
use Rattle.std.proofs.Common.{◌≡◌, ◌≤◌, length, drop}
use Rattle.minus_text.specs.Lines.{cut, whole}
use Rattle.minus_text.proofs.carried_style.style_part.Given as goal

abbrev pub invariant-loop-at : goal.invariant-loop-at
invariant-loop-at l = (l.from ≤ length l.bytes) × (cut (drop l.from l.bytes) ≡ whole (drop l.from l.bytes))

abbrev pub decreases-loop-at : goal.decreases-loop-at
decreases-loop-at l = l.from
