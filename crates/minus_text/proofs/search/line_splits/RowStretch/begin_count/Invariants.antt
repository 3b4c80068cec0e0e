-- How many matches begin among those so far, and among the others.
use Rattle.std.proofs.Common.{◌≡◌, ◌+◌, ◌≤◌, drop}
use Rattle.minus_text.specs.LineFinds.{begin_count}
use Rattle.minus_text.specs.LineSplits.{stretch_of}
use Rattle.minus_text.proofs.search.line_splits.RowStretch.begin_count.Given as goal

abbrev pub invariant-loop-m : goal.invariant-loop-m
invariant-loop-m l = record {
  so_far : l.count + begin_count (stretch_of l.self) (drop l.m-index l.matches) ≡ begin_count (stretch_of l.self) l.matches;
  few : l.count ≤ l.m-index;
}
