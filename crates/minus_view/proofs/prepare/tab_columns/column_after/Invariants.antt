-- The bytes behind `start` are in one line.
use Rattle.std.proofs.Common.{ℕ, ◌≡◌, ◌+◌, ◌-◌, ◌≤◌, drop, length}
use Rattle.minus_view.specs.TabColumns.{column_after}
use Rattle.minus_view.proofs.prepare.tab_columns.column_after.Given as goal

abbrev pub decreases-loop-start : goal.decreases-loop-start
decreases-loop-start l = l.start

abbrev pub invariant-loop-start : goal.invariant-loop-start
invariant-loop-start l = record {
  within : l.start ≤ length l.plain;
  line : (col : ℕ) → column_after l.tabs col (drop l.start l.plain) ≡ col + (length l.plain - l.start);
}
