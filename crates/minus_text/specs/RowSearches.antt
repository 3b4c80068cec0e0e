-- What is put for rows where a term is searched for in each of them by itself.
use Rattle.std.specs.Prelude.{◌≡◌, ℕ, false, List, Option, Some, slice_get}
use Rattle.regex.specs.Patterns.{Re}
use Rattle.minus_text.specs.Document.{Document, rows_of}
use Rattle.minus_text.specs.Found.{found_of_row, marked}
use Rattle.minus_text.specs.Finds.{finds}
use Rattle.minus_text.specs.Searched.{shown_for}
use Rattle.minus_text.specs.ShownMatches.{shown_within, marked_within}

-- a row of a document is put as the term shows it alone
abbrev pub RowsShowTheirMatches : Type 0
RowsShowTheirMatches =
    (term : Option Re) (d : Document) (i : ℕ) (row : List ℕ) → d.layout.match_lines ≡ false
    → slice_get (rows_of d) i ≡ Some row
    → marked (found_of_row i (finds term d)) row ≡ shown_for term row

-- and so is what is shown of it in some columns
abbrev pub PartsShowTheirMatches : Type 0
PartsShowTheirMatches =
    (term : Option Re) (left width : ℕ) (d : Document) (i : ℕ) (row : List ℕ) → d.layout.match_lines ≡ false
    → slice_get (rows_of d) i ≡ Some row
    → marked_within left width (found_of_row i (finds term d)) row ≡ shown_within term left width row
