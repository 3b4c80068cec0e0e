-- What is shown of the rows of a document under a term: from the left mark on, with what
-- matches and what is selected marked.
use Rattle.std.specs.Prelude.{◌≡◌, ℕ, ◌+◌, ◌-◌, ◌≤◌, ◌⊎◌, true, false, zero, suc, min, Option, None, Some, option_map}
use Rattle.std.specs.Prelude.{unwrap_or, List, [], ◌∷◌, ◌++◌, length, slice_get, if◌then◌else◌}
use Rattle.std.specs.List.{concat}
use Rattle.std.specs.Str.{IsUtf8, encode_utf8_all}
use Rattle.minus_text.specs.Crop.{cropped, columns_of}
use Rattle.minus_text.specs.NumberPrefix.{is_on, prefix}
use Rattle.regex.specs.Patterns.{Re}
use Rattle.minus_text.specs.Document.{Document, rows_of, line_count}
use Rattle.minus_text.specs.Searched.{stored_rows_for}
use Rattle.minus_text.specs.Found.{found_of_row}
use Rattle.minus_text.specs.Finds.{finds}
use Rattle.minus_text.specs.ShownMatches.{marked_within}
use Rattle.minus_text.specs.Styles.{ended, IsClosed}
use Rattle.minus_state.specs.declared.selection.Selection.{Selection}
use Rattle.minus_state.specs.Selection.{marked_range}
use Rattle.minus_state.specs.View.{prefix_in, cut_in}
use Rattle.minus_state.specs.VisibleCharacters.{marked, HasMarks}

-- the columns that are left for the text of a row
abbrev pub columns_for_text : Document → ℕ
columns_for_text d = d.layout.cols - prefix_in d

-- what stands before a line that is its one row
abbrev pub line_prefix : Document → ℕ → List ℕ
line_prefix d i = prefix (is_on d.layout.numbers) (line_count d) (i + 1) true

-- what is shown of it with a text: its prefix, and the columns of the text from the left mark on
abbrev pub cropped_line : Document → ℕ → ℕ → List ℕ → List ℕ
cropped_line d left i text = line_prefix d i ++ cropped left (columns_for_text d) text

-- what is shown of it under a term, with the markers of those of its matches that take some of these columns
abbrev pub cropped_row : Option Re → Document → ℕ → ℕ → Option (List ℕ)
cropped_row term d left i =
    option_map (cropped_line d left i)
    (option_map (marked_within left (columns_for_text d) (found_of_row i (finds term d))) (slice_get (rows_of d) i))

-- a row as it is laid out: as it is stored, or, where lines are not wrapped, what is shown of its line
abbrev pub laid_row : Option Re → Document → ℕ → ℕ → Option (List ℕ)
laid_row term d left i = if d.layout.wrapping then slice_get (stored_rows_for term d) i else cropped_row term d left i

-- a row of a document: where styles are carried, it is ended, so that it leaves none open behind it
abbrev pub ended_in : Document → List ℕ → List ℕ
ended_in d row = if d.layout.carry_style then ended row else row

-- a row without a selection
abbrev pub unmarked_row : Option Re → Document → ℕ → ℕ → Option (List ℕ)
unmarked_row term d left i = option_map (ended_in d) (laid_row term d left i)

-- the visible characters of a row that are selected, if some may be
abbrev pub selected_range : Document → ℕ → Option (Selection × Selection) → ℕ → Option (ℕ × Option ℕ)
selected_range d left None i = None
selected_range d left (Some ends) i = marked_range ends.0 ends.1 i (prefix_in d) (cut_in d left)

-- a row with marks around a range of its visible characters; a range without an end goes to the
-- row's end, which has no more of them than bytes
abbrev pub with_marks : Option (ℕ × Option ℕ) → List ℕ → List ℕ
with_marks None row = row
with_marks (Some range) row = marked range.0 (unwrap_or range.1 (length row)) row

-- the shown row
abbrev pub shown_row : Option Re → Document → ℕ → Option (Selection × Selection) → ℕ → Option (List ℕ)
shown_row term d left ends i = option_map (with_marks (selected_range d left ends i)) (unmarked_row term d left i)

-- a row before others, if there is one
abbrev pub before_rows : Option (List ℕ) → List (List ℕ) → List (List ℕ)
before_rows None rows = rows
before_rows (Some row) rows = row ∷ rows

-- the shown rows from row i on, counted from 0, at most this number of them
abbrev pub rows_from : Option Re → Document → ℕ → Option (Selection × Selection) → ℕ → ℕ → List (List ℕ)
rows_from term d left ends i zero = []
rows_from term d left ends i (suc n) = before_rows (shown_row term d left ends i) (rows_from term d left ends (i + 1) n)

-- the shown rows from one on up to but without another, as far as there are rows
unfoldable pub shown_rows : Option Re → Document → ℕ → Option (Selection × Selection) → ℕ → ℕ → List (List ℕ)
shown_rows term d left ends start end = rows_from term d left ends start (min end (length (rows_of d)) - start)

-- where lines are not wrapped, a row without a selection, less the reset that ends it, takes no more columns
-- behind its prefix than are left for its text
abbrev pub ShownRowsFit : Type 0
ShownRowsFit =
    (term : Option Re) (d : Document) (left i : ℕ) (row : List ℕ) → d.layout.wrapping ≡ false
    → shown_row term d left None i ≡ Some row
    → (units : List (List ℕ)) × (row ≡ ended_in d (line_prefix d i ++ encode_utf8_all (concat units)))
    × (columns_of units ≤ columns_for_text d)

-- where styles are carried, a row without a selection leaves none open
abbrev pub ShownRowsAreClosed : Type 0
ShownRowsAreClosed = (term : Option Re) (d : Document) (left i : ℕ) (row : List ℕ) → d.layout.carry_style ≡ true
    → shown_row term d left None i ≡ Some row → IsClosed row

-- a shown row without the two marks of a selection is the row without a selection, or it has none
abbrev pub SelectionAddsMarkersAlone : Type 0
SelectionAddsMarkersAlone =
    (term : Option Re) (d : Document) (left i : ℕ) (ends : Selection × Selection) (row shown : List ℕ)
    → IsUtf8 row → shown_row term d left None i ≡ Some row → shown_row term d left (Some ends) i ≡ Some shown
    → (shown ≡ row) ⊎ HasMarks row shown
