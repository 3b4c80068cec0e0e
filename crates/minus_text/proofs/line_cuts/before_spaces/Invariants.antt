-- Spaces stand behind the end.
use Rattle.std.proofs.Common.{◌-◌, ◌≤◌}
use Rattle.minus_text.specs.LineCuts.{HasSpaces}
use Rattle.minus_text.proofs.line_cuts.before_spaces.Given as goal

abbrev pub invariant-loop-end : goal.invariant-loop-end
invariant-loop-end l = record {
  least : l.start ≤ l.end;
  most : l.end ≤ l.place;
  spaces : HasSpaces l.line l.end l.place;
}

abbrev pub decreases-loop-end : goal.decreases-loop-end
decreases-loop-end l = l.end - l.start
