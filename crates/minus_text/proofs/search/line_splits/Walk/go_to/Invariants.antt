-- The walk so far has not come past the place.
use Rattle.std.proofs.Common.{length, ◌-◌, ◌≤◌}
use Rattle.minus_text.specs.LineSplits.{IsWalk}
use Rattle.minus_text.proofs.search.line_splits.Walk.go_to.Given as goal

abbrev pub invariant-loop-walk : goal.invariant-loop-walk
invariant-loop-walk l = record {
  walk : IsWalk l.places l.walk;
  on : l.walk.at ≤ l.x;
}

abbrev pub decreases-loop-walk : goal.decreases-loop-walk
decreases-loop-walk l = length l.places - l.walk.passed
