use Rattle.std.proofs.Common.{◌≤◌, length, drop}
use Rattle.minus_text.specs.Seams.{NoneAlone}
use Rattle.minus_text.proofs.seams.last_seam.Given as goal

abbrev pub invariant-loop-i : goal.invariant-loop-i
invariant-loop-i l = record {
  least : l.first ≤ l.i;
  count : l.i ≤ length l.rows;
  none : NoneAlone l.line l.base l.border (drop l.i l.rows);
}

abbrev pub decreases-loop-i : goal.decreases-loop-i
decreases-loop-i l = l.i
