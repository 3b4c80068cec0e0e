-- What the rows that are found, and what finds them, stand for.
use Rattle.regex.specs.Patterns.{Re}
use Rattle.regex.specs.Strings.{matcher_pattern, regex_pattern}
use Rattle.std.specs.Borrow.{Bor}
use Rattle.std.specs.Prelude.{◌≡◌, ℕ, ◌+◌, List, ◌++◌, map, Option, option_map, slice_get}
use Rattle.minus_text.specs.declared.search.found.FoundRow.{FoundRow}
use Rattle.minus_text.specs.declared.search.found.Finder.{Finder}
use Rattle.minus_text.specs.declared.search.term.Term.{Term}
use Rattle.minus_text.specs.Found.{RowMatches, IsPlacedSome, IsPlacedSome-prop, ArePlaced}

-- what was found in a row as the code keeps it: places of escape sequences and of matches in bytes, and how many
-- matches begin there
abbrev pub matches_of : FoundRow → RowMatches
matches_of f = record { row = f.row; escapes = f.escapes.items; matches = f.matches.items; begins = f.begins }

-- what was found in a row, if something was, stands in it
abbrev pub FoundStands : List ℕ → Option (Bor FoundRow) → Type 0
FoundStands row found = IsPlacedSome row (option_map (λ f. matches_of f.now) found)

-- this was found, and stands behind what was found before
abbrev pub AddsFound : (old new : List FoundRow) → List RowMatches → Type 0
AddsFound old new found = map matches_of new ≡ map matches_of old ++ found

-- what was found in a row with a number, if there is one, was added to what was found: where the row is one of these,
-- and the old places stand in these rows, so do the new ones
abbrev pub StaysPlaced : ℕ → Option (List ℕ) → (old new : List FoundRow) → Type 0
StaysPlaced n row old new =
    (first : ℕ) (rows : List (List ℕ)) (i : ℕ) → n ≡ first + i → row ≡ slice_get rows i
    → ArePlaced first rows (map matches_of old)
    → ArePlaced first rows (map matches_of new)

-- the pattern that it finds
abbrev pub finder_pattern : Finder → Re
finder_pattern f = matcher_pattern f.term

-- the pattern of a term
abbrev pub term_pattern : Term → Re
term_pattern term = regex_pattern term.pattern.now

-- the pattern of a term, if there is one
abbrev pub pattern_of : Option Term → Option Re
pattern_of term = option_map term_pattern term

-- that is a fact
pub FoundStands-prop : (row : List ℕ) (found : Option (Bor FoundRow)) → IsProp (FoundStands row found)
FoundStands-prop row found = IsPlacedSome-prop row (option_map (λ f. matches_of f.now) found)
