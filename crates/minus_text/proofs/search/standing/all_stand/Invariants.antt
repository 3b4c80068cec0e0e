-- Where what is left stands, all does.
use Rattle.std.proofs.Common.{map, drop}
use Rattle.minus_text.specs.Document.{rows_of}
use Rattle.minus_text.specs.Found.{ArePlaced}
use Rattle.minus_text.specs.FoundRows.{matches_of}
use Rattle.minus_text.proofs.search.standing.all_stand.Given as goal

abbrev pub invariant-loop-row : goal.invariant-loop-row
invariant-loop-row l =
    ArePlaced 0 (rows_of l.store) (map matches_of (drop l.row-index l.found)) → ArePlaced 0 (rows_of l.store) (map matches_of l.found)
