-- The match before the place stands above the row, and the one behind does not.
use Rattle.std.proofs.Common.{◌≡◌, ◌-◌, ◌<◌, ◌≤◌, true, false}
use Rattle.minus_state.specs.States.{control_of, IsFormed}
use Rattle.minus_app.specs.Jumps.{stands_before}
use Rattle.minus_app.proofs.view.jumps.first_match_from.Given as goal

abbrev pub invariant-loop-before : goal.invariant-loop-before
invariant-loop-before l = record {
  order : l.before ≤ l.behind;
  above : IsFormed l.state → 0 < l.before → stands_before (control_of l.state) l.row (l.before - 1) ≡ true;
  below : IsFormed l.state → stands_before (control_of l.state) l.row l.behind ≡ false;
}

abbrev pub decreases-loop-before : goal.decreases-loop-before
decreases-loop-before l = l.behind - l.before
