use Rattle.std.proofs.Common.{◌≡◌, map, take}
use Rattle.minus_text.specs.Found.{match_total}
use Rattle.minus_text.specs.FoundRows.{matches_of}
use Rattle.minus_text.specs.JumpRows.{counted, jumps_behind}
use Rattle.minus_text.proofs.search.jump_rows.jumps_of.Given as goal

abbrev pub invariant-loop-row : goal.invariant-loop-row
invariant-loop-row l = record {
  found : l.jumps.items ≡ jumps_behind 0 (map matches_of (take l.row-index l.found));
  count : l.end ≡ counted (match_total (map matches_of (take l.row-index l.found)));
}
