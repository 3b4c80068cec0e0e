-- The bytes that are passed, and what is left.
use Rattle.std.proofs.Common.{length}
use Rattle.minus_text.specs.TextUnits.{units_left, bytes_left}
use Rattle.minus_state.proofs.VisibleLaws.{VisibleSoFar}
use Rattle.minus_state.proofs.visible.from_visible.Given as goal

abbrev pub invariant-loop-unit : goal.invariant-loop-unit
invariant-loop-unit l = VisibleSoFar l.count l.left (units_left l.units) (units_left l.rest) (bytes_left l.units) (bytes_left l.rest)

abbrev pub decreases-loop-unit : goal.decreases-loop-unit
decreases-loop-unit l = length (bytes_left l.rest)
