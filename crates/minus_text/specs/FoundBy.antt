-- What is kept of what a term finds in a document, and how a push goes on with it.
use Rattle.std.specs.Prelude.{◌≡◌, ℕ, ◌+◌, ◌≤◌, List, [], ◌++◌, Option, None, Some, map, vec_len, vec_capacity}
use Rattle.regex.specs.Patterns.{Re}
use Rattle.minus_text.specs.declared.search.found_rows.FoundRows.{FoundRows}
use Rattle.std.specs.Coded.{Coded-set, coded_list}
use Rattle.minus_text.specs.contracts.search.jump_rows.Jump as jump
use Rattle.minus_text.specs.declared.search.jump_rows.Jump.{Jump}
use Rattle.minus_text.specs.declared.line_numbers.LineNumbers.{LineNumbers}
use Rattle.minus_text.specs.Document.{Document, pushed, rows_of}
use Rattle.minus_text.specs.Pending.{Pending, IsPending, SearchesAlike}
use Rattle.minus_text.specs.Found.{RowMatches, ArePlaced, ArePlaced-prop, found_in_row, found_above}
use Rattle.minus_text.specs.Finds.{found_in, finds}
use Rattle.minus_text.specs.JumpRows.{jumps_behind}
use Rattle.minus_text.specs.FoundRows.{matches_of}

-- what was found
abbrev pub found_rows : FoundRows → List RowMatches
found_rows f = map matches_of f.rows.items

-- this many more fit in without more memory
pub record HasRoomFor (f more : FoundRows) : Type 0 where
  pub for_rows : vec_len f.rows + vec_len more.rows ≤ vec_capacity f.rows
  pub for_jumps : vec_len f.jumps + vec_len more.jumps ≤ vec_capacity f.jumps

-- what was found stands in the rows of a document
abbrev pub FoundRowsStand : Document → FoundRows → Type 0
FoundRowsStand d f = ArePlaced 0 (rows_of d) (found_rows f)

-- the jumps are those of what was found
abbrev pub AreJumps : FoundRows → Type 0
AreJumps f = f.jumps.items ≡ jumps_behind 0 (found_rows f)

-- what a pattern finds in a row, if there is one
abbrev pub found_in_some : Re → ℕ → Option (List ℕ) → List RowMatches
found_in_some pattern n None = []
found_in_some pattern n (Some row) = found_in_row pattern n row

-- what a term finds in the rows that a push leaves: what it found in those that stay, and what it finds in those that
-- are formed
abbrev pub FoundGoesOn : Type 0
FoundGoesOn =
    (term : Option Re) (d : Document) (piece : List ℕ) (numbers : LineNumbers) (cols : ℕ) (p : Pending)
    → IsPending d piece numbers cols p
    → SearchesAlike term d p
    → found_above p.kept_rows (finds term d) ++ found_in term p.match_lines p.kept_rows p.tail
    ≡ finds term (pushed d piece numbers cols)

-- each of these is a fact
pub FoundRowsStand-prop : (d : Document) (f : FoundRows) → IsProp (FoundRowsStand d f)
FoundRowsStand-prop d f = ArePlaced-prop 0 (rows_of d) (found_rows f)

jumps_set : IsSet (List Jump)
jumps_set = Coded-set (coded_list jump.the_row.coded)

pub AreJumps-prop : (f : FoundRows) → IsProp (AreJumps f)
AreJumps-prop f = hlevel jumps_set
