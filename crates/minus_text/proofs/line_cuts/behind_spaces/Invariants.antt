-- Spaces stand before the next place.
use Rattle.std.proofs.Common.{◌-◌, ◌≤◌}
use Rattle.minus_text.specs.LineCuts.{HasSpaces}
use Rattle.minus_text.proofs.line_cuts.behind_spaces.Given as goal

abbrev pub invariant-loop-next : goal.invariant-loop-next
invariant-loop-next l = record {
  least : l.place ≤ l.next;
  most : l.next ≤ l.end;
  spaces : HasSpaces l.line l.place l.next;
}

abbrev pub decreases-loop-next : goal.decreases-loop-next
decreases-loop-next l = l.end - l.next
