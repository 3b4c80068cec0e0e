-- The texts of rows with their matches.
use Rattle.std.specs.Prelude.{◌≡◌, ℕ, List, Option, option_map, slice_get}
use Rattle.regex.specs.Patterns.{Re}
use Rattle.minus_text.specs.declared.matched_text.MatchedText.{MatchedText}
use Rattle.minus_text.specs.Document.{rows_of}
use Rattle.minus_text.specs.FoundRows.{matches_of}
use Rattle.minus_text.specs.Searched.{Searched, IsFoundAt}
use Rattle.minus_text.specs.ShownMatches.{marked_within}
use Rattle.minus_text.specs.Found.{found_of_row}
use Rattle.minus_text.specs.Finds.{finds}

-- a text with those of its matches in reverse that are shown in some columns
abbrev pub text_within : ℕ → ℕ → MatchedText → List ℕ
text_within left width t = marked_within left width (option_map (λ f. matches_of f.now) t.found) t.text.text.now

-- the text of a row, if there is one, with its matches, under whatever term it was searched for
abbrev pub IsMatchedRow : Searched → ℕ → Option MatchedText → Type 0
IsMatchedRow s i row = (term : Option Re) (left width : ℕ) → IsFoundAt term s i
    → option_map (text_within left width) row
    ≡ option_map (marked_within left width (found_of_row i (finds term s.document))) (slice_get (rows_of s.document) i)
