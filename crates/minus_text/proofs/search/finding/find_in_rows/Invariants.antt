use Rattle.std.proofs.Common.{◌≡◌, ◌-◌, ◌≤◌, map, take, drop}
use Rattle.regex.specs.Strings.{regex_pattern}
use Rattle.minus_text.specs.Document.{rows_of}
use Rattle.minus_text.specs.Found.{found_in_rows, ArePlaced}
use Rattle.minus_text.specs.FoundRows.{finder_pattern, matches_of}
use Rattle.minus_text.proofs.search.finding.find_in_rows.Given as goal

abbrev pub invariant-loop-i : goal.invariant-loop-i
invariant-loop-i l = record {
  same : finder_pattern l.finder ≡ regex_pattern l.term.pattern.now;
  within : l.i - l.start ≤ l.end - l.start;
  found : map matches_of l.rows.items ≡ found_in_rows (regex_pattern l.term.pattern.now) l.start (take (l.i - l.start) (drop l.start (rows_of l.store)));
  placed : ArePlaced 0 (rows_of l.store) (map matches_of l.rows.items);
}
