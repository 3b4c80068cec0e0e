use Rattle.std.proofs.Common.{◌≡◌, ◌-◌, ◌≤◌, [], take, drop}
use Rattle.minus_text.specs.Document.{rows_of}
use Rattle.minus_text.specs.Found.{found_in_rows}
use Rattle.minus_text.specs.FoundRows.{finder_pattern}
use Rattle.minus_text.proofs.search.finding.first_in_rows.Given as goal

abbrev pub invariant-loop-i : goal.invariant-loop-i
invariant-loop-i l = record {
  same : finder_pattern l.finder ≡ finder_pattern l.fn.finder;
  within : l.i - l.start ≤ l.end - l.start;
  none : [] ≡ found_in_rows (finder_pattern l.fn.finder) l.start (take (l.i - l.start) (drop l.start (rows_of l.store)));
}
