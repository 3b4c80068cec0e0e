use Rattle.std.proofs.Common.{◌≡◌, ◌≤◌, map}
use Rattle.regex.specs.Strings.{regex_pattern}
use Rattle.minus_text.specs.Document.{rows_of}
use Rattle.minus_text.specs.Found.{ArePlaced}
use Rattle.minus_text.specs.FoundRows.{finder_pattern, matches_of}
use Rattle.minus_text.specs.StoredLines.{finds_between}
use Rattle.minus_text.proofs.search.finding.find_in_lines.Given as goal

abbrev pub invariant-loop-line : goal.invariant-loop-line
invariant-loop-line l = record {
  same : finder_pattern l.finder ≡ regex_pattern l.term.pattern.now;
  within : l.line ≤ l.end;
  found : map matches_of l.found.items ≡ finds_between (regex_pattern l.term.pattern.now) l.store l.start l.line;
  placed : ArePlaced 0 (rows_of l.store) (map matches_of l.found.items);
}
