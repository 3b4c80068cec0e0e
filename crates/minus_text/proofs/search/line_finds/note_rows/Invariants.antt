-- What is found in the rows so far, and in the others.
use Rattle.std.proofs.Common.{◌≡◌, ◌+◌, ◌++◌, ◌≤◌, length, drop, map}
use Rattle.minus_text.specs.LineFinds.{finds_in_rows}
use Rattle.minus_text.specs.FoundRows.{matches_of}
use Rattle.minus_text.specs.LineSplits.{IsWalk, RowsOrdered, in_line}
use Rattle.minus_text.proofs.search.line_finds.note_rows.Given as goal

abbrev pub invariant-loop-i : goal.invariant-loop-i
invariant-loop-i l = record {
  walk : IsWalk l.escapes l.walk;
  rows : RowsOrdered (l.line.base + l.walk.at) (drop l.i l.line.rows.now);
  few : l.done ≤ length l.matches;
  so_far : map matches_of l.found.items ++ finds_in_rows (l.line.first + l.i) l.escapes (drop l.done l.matches) (map (in_line l.line.base) (drop l.i l.line.rows.now))
      ≡ map matches_of l.initial.found.items ++ finds_in_rows l.line.first l.escapes l.matches (map (in_line l.line.base) l.line.rows.now);
}
