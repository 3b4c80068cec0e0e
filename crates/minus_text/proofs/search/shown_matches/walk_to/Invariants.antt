-- What was counted so far counts on, and there is room for the rest.
use Rattle.std.proofs.Common.{◌+◌, ◌*◌, ◌≤◌, ℕ, List, length}
use Rattle.minus_text.specs.TextUnits.{bytes_left}
use Rattle.minus_text.specs.Walks.{Counts}
use Rattle.minus_text.proofs.search.shown_matches.walk_to.Given as goal

abbrev pub invariant-loop-walk : goal.invariant-loop-walk
invariant-loop-walk l = record {
  counts : (us : List (List ℕ)) (p : ℕ) → p ≤ l.place → Counts l.fn.from us p → Counts l.walk us l.place;
  bytes : l.walk.at + length (bytes_left l.walk.rest) ≤ l.fn.from.at + length (bytes_left l.fn.from.rest);
  room : l.walk.columns + 2 * length (bytes_left l.walk.rest) ≤ l.fn.from.columns + 2 * length (bytes_left l.fn.from.rest);
}

abbrev pub decreases-loop-walk : goal.decreases-loop-walk
decreases-loop-walk l = length (bytes_left l.walk.rest)
