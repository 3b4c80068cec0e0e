use Rattle.std.proofs.Common.{◌≡◌, map, take}
use Rattle.regex.specs.Strings.{regex_pattern}
use Rattle.minus_text.specs.Fragments.{rows_in}
use Rattle.minus_text.specs.Found.{found_in_rows, ArePlaced}
use Rattle.minus_text.specs.FoundRows.{finder_pattern, matches_of}
use Rattle.minus_text.proofs.search.finding.find_in_push.Given as goal

abbrev pub invariant-loop-i : goal.invariant-loop-i
invariant-loop-i l = record {
  same : finder_pattern l.finder ≡ regex_pattern l.term.pattern.now;
  found : map matches_of l.rows.items ≡ found_in_rows (regex_pattern l.term.pattern.now) l.pending.kept_rows (take l.i (rows_in l.pending.tail));
  placed : ArePlaced l.pending.kept_rows (rows_in l.pending.tail) (map matches_of l.rows.items);
}
