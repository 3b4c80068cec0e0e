-- No row may end behind the place.
use Rattle.std.proofs.Common.{◌-◌, ◌+◌, ◌≤◌}
use Rattle.minus_text.specs.LineCuts.{HasNoCut}
use Rattle.minus_text.proofs.line_cuts.last_cut.Given as goal

abbrev pub invariant-loop-place : goal.invariant-loop-place
invariant-loop-place l = record {
  least : l.start ≤ l.place;
  most : l.place ≤ l.start + l.cols;
  none : HasNoCut l.line l.start l.place (l.start + l.cols);
}

abbrev pub decreases-loop-place : goal.decreases-loop-place
decreases-loop-place l = l.place - l.start
