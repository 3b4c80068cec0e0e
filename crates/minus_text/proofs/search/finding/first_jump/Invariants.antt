use Rattle.std.proofs.Common.{◌≡◌, None, map, take}
use Rattle.minus_text.specs.Found.{jump_rows}
use Rattle.minus_text.specs.FoundRows.{matches_of}
use Rattle.minus_text.specs.StoredLines.{first_from}
use Rattle.minus_text.proofs.search.finding.first_jump.Given as goal

abbrev pub invariant-loop-found : goal.invariant-loop-found
invariant-loop-found l = None ≡ first_from l.row (jump_rows (map matches_of (take l.found-index l.fn.found)))
