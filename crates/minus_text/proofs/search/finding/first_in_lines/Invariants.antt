use Rattle.std.proofs.Common.{◌≡◌, ◌≤◌, None}
use Rattle.minus_text.specs.Found.{jump_rows}
use Rattle.minus_text.specs.FoundRows.{finder_pattern}
use Rattle.minus_text.specs.StoredLines.{finds_between, first_from}
use Rattle.minus_text.proofs.search.finding.first_in_lines.Given as goal

abbrev pub invariant-loop-line : goal.invariant-loop-line
invariant-loop-line l = record {
  same : finder_pattern l.finder ≡ finder_pattern l.fn.finder;
  within : l.line ≤ l.end;
  none : None ≡ first_from l.row (jump_rows (finds_between (finder_pattern l.fn.finder) l.store l.start l.line));
}
