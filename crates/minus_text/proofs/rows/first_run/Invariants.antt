-- The pieces so far fit on one row.
use Rattle.std.proofs.Common.{◌≡◌, ◌<◌, ◌≤◌, ◌+◌, take}
use Rattle.std.specs.List.{sum_by}
use Rattle.minus_text.specs.MeasuredPieces.{size, measured_columns, end_of}
use Rattle.minus_text.proofs.RowsMeasured.{gap}
use Rattle.minus_text.proofs.rows.first_run.Given as goal

abbrev pub invariant-loop-i : goal.invariant-loop-i
invariant-loop-i l = record {
  columns : l.columns ≡ measured_columns (take l.i l.pieces);
  gap : l.gap ≡ gap (take l.i l.pieces);
  end : l.end ≡ end_of l.at (take l.i l.pieces);
  next : l.next ≡ l.at + sum_by size (take l.i l.pieces);
  seam : l.next ≡ l.end + l.gap;
  fits : 1 < l.i → l.columns ≤ l.cols;
}
