-- What a term finds in rows.
use Rattle.std.specs.Prelude.{◌≡◌, ℕ, ◌+◌, ◌-◌, ◌≤◌, ◌==◌, false, List, [], ◌∷◌, ◌++◌, length, Option, None, Some}
use Rattle.std.specs.Prelude.{IfSome, take, drop, slice_get, nat_le}
use Rattle.std.specs.Prelude.{if◌then◌else◌}
use Rattle.std.specs.List.{position_or_len, sum_by}
use Rattle.std.specs.Coded.{le_prop}
use Rattle.regex.specs.Patterns.{Re}
use Rattle.minus_text.specs.Escapes.{escape_places, outside, inside, CutsText, CutsText-prop}
use Rattle.minus_text.specs.Highlight.{line_matches, line_match_places, ordered, put_in}

-- a row that shows some of matches: its number, where escape sequences stand in it, where matches stand in the row
-- without these, and how many matches begin in it
pub record RowMatches : Type 0 where
  pub row : ℕ
  pub escapes : List (ℕ × ℕ)
  pub matches : List (ℕ × ℕ)
  pub begins : ℕ

-- what a pattern finds in a row with a number: nothing where it does not match
abbrev pub found_in_row : Re → ℕ → List ℕ → List RowMatches
found_in_row pattern n row =
    let ms = line_match_places pattern row in
    if line_matches pattern row
    then record { row = n; escapes = escape_places row; matches = ms; begins = length ms } ∷ []
    else []

-- what it finds in rows, of which the first has a number
abbrev pub found_in_rows : Re → ℕ → List (List ℕ) → List RowMatches
found_in_rows pattern n [] = []
found_in_rows pattern n (row ∷ rows) = found_in_row pattern n row ++ found_in_rows pattern (n + 1) rows

-- what a term finds in rows, if there is one
abbrev pub found_by : Option Re → ℕ → List (List ℕ) → List RowMatches
found_by None n rows = []
found_by (Some pattern) n rows = found_in_rows pattern n rows

-- what a pattern finds in the rows from one on up to another, as far as there are rows
abbrev pub found_between : Re → List (List ℕ) → (start end : ℕ) → List RowMatches
found_between pattern rows start end = found_in_rows pattern start (take (end - start) (drop start rows))

-- what was found in the rows before one
abbrev pub found_above : ℕ → List RowMatches → List RowMatches
found_above n found = take (position_or_len (λ f. nat_le n f.row) found) found

-- what was found in the row with a number and in those behind it
abbrev pub found_from : ℕ → List RowMatches → List RowMatches
found_from n found = drop (position_or_len (λ f. nat_le n f.row) found) found

-- the rows in which matches begin: jumps go to these
abbrev pub jump_rows : List RowMatches → List ℕ
jump_rows [] = []
jump_rows (r ∷ rs) = if r.begins == 0 then jump_rows rs else r.row ∷ jump_rows rs

-- how many matches there are, and how many begin in the rows above one
abbrev pub match_total : List RowMatches → ℕ
match_total found = sum_by (λ r. r.begins) found

-- how many matches begin in the rows above one, counted from 0
abbrev pub matches_above : ℕ → List RowMatches → ℕ
matches_above n found = match_total (found_above n found)

-- what was found in the row with a number, if that is a row that matches
abbrev pub found_of_row : ℕ → List RowMatches → Option RowMatches
found_of_row n [] = None
found_of_row n (r ∷ rs) = if r.row == n then Some r else found_of_row n rs

-- a row with what was found in it shown in reverse, not accurately; a row in which nothing was found as it is
abbrev pub marked : Option RowMatches → List ℕ → List ℕ
marked None row = row
marked (Some r) row = put_in (outside row 0 r.escapes) 0 (ordered false r.matches (inside row 0 0 r.escapes))

-- these places stand in a row, and in the row without its escape sequences
abbrev pub IsPlaced : List ℕ → RowMatches → Type 0
IsPlaced row r = CutsText row 0 r.escapes × CutsText (outside row 0 r.escapes) 0 r.matches

-- the places of what was found in a row, if something was
abbrev pub IsPlacedSome : List ℕ → Option RowMatches → Type 0
IsPlacedSome row None = Unit {0}
IsPlacedSome row (Some r) = IsPlaced row r

-- these places stand in the row that has their number, among rows of which the first has a number
abbrev pub IsPlacedIn : ℕ → List (List ℕ) → RowMatches → Type 0
IsPlacedIn first rows r = (i : ℕ) (row : List ℕ) → r.row ≡ first + i → slice_get rows i ≡ Some row → IsPlaced row r

-- and so do the places of each row in which something was found
abbrev pub ArePlaced : ℕ → List (List ℕ) → List RowMatches → Type 0
ArePlaced first rows [] = Unit {0}
ArePlaced first rows (r ∷ rs) = IsPlacedIn first rows r × ArePlaced first rows rs

-- what was found in the row at a place of these rows, if something was, stands in it
abbrev pub ArePlacedAt : List (List ℕ) → ℕ → List RowMatches → Type 0
ArePlacedAt rows i found =
    (row : List ℕ) → slice_get rows i ≡ Some row → IfSome (found_of_row i found) (λ r. IsPlaced row r)

-- their numbers ascend, from one on
abbrev pub Ascend : ℕ → List RowMatches → Type 0
Ascend first [] = Unit {0}
Ascend first (r ∷ rs) = (first ≤ r.row) × Ascend (r.row + 1) rs

-- what was found stands in rows of which the first has a number
pub record AreFoundIn (first : ℕ) (rows : List (List ℕ)) (found : List RowMatches) : Type 0 where
  pub placed : ArePlaced first rows found
  pub ascend : Ascend first found

-- each of these is a fact
pub ArePlaced-prop : (first : ℕ) (rows : List (List ℕ)) (found : List RowMatches) → IsProp (ArePlaced first rows found)
ArePlaced-prop first rows [] = hlevel
ArePlaced-prop first rows (r ∷ rs) = hlevel (CutsText-prop, ArePlaced-prop first rows rs)

pub Ascend-prop : (first : ℕ) (found : List RowMatches) → IsProp (Ascend first found)
Ascend-prop first [] = hlevel
Ascend-prop first (r ∷ rs) = hlevel (le_prop, Ascend-prop (r.row + 1) rs)

pub IsPlacedSome-prop : (row : List ℕ) (found : Option RowMatches) → IsProp (IsPlacedSome row found)
IsPlacedSome-prop row None = hlevel
IsPlacedSome-prop row (Some r) = hlevel CutsText-prop
