-- The rows so far, and those of what is left, are the line's.
use Rattle.std.proofs.Common.{◌≡◌, ◌-◌, ◌<◌, ◌≤◌, ◌++◌, length, map, take, drop}
use Rattle.minus_text.specs.Kept.{moved}
use Rattle.minus_text.specs.Rows.{line_places}
use Rattle.minus_text.proofs.line_cuts.push_cuts.Given as goal

abbrev pub invariant-loop-start : goal.invariant-loop-start
invariant-loop-start l = record {
  order : l.start ≤ l.end;
  some : 0 < l.end → l.start < l.end;
  rows : l.rows.items ++ map (moved l.base) (map (moved l.start) (line_places l.cols (drop l.start l.line))) ≡ l.fn.rows.items ++ map (moved l.base) (line_places l.cols l.line);
  kept : take (length l.fn.rows.items) l.rows.items ≡ l.fn.rows.items;
}

abbrev pub decreases-loop-start : goal.decreases-loop-start
decreases-loop-start l = length l.line - l.start
