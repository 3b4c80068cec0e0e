-- What is drawn of a row, whatever the term that it was searched for.
use Rattle.std.specs.Prelude.{◌≡◌, ℕ, List, [], ◌++◌, Option, None, Some, option_map, slice_get}
use Rattle.regex.specs.Patterns.{Re}
use Rattle.minus_term.specs.FullRedraw.{row_ops}
use Rattle.minus_term.specs.Operations.{Op}
use Rattle.minus_term.specs.Written.{written_all}
use Rattle.minus_text.specs.Searched.{IsFoundAt, stored_rows_for}
use Rattle.minus_text.specs.Views.{viewed}
use Rattle.minus_state.specs.Selection.{ends_in_order}
use Rattle.minus_state.specs.ShownRow.{cropped_row, ended_in, unmarked_row, shown_row}
use Rattle.minus_state.specs.declared.showing.ShownRows.{ShownRows}

-- the operations that put a row, if there is one
abbrev pub some_row_ops : Option (List ℕ) → List Op
some_row_ops None = []
some_row_ops (Some row) = row_ops row

-- the row with a number, if there is one, is added to bytes as it is stored, and ended where styles are carried
abbrev pub WritesStored : ShownRows → ℕ → (old new : List ℕ) → Type 0
WritesStored shown i old new =
    (term : Option Re) → IsFoundAt term (viewed shown.view) i
    → (let d = (viewed shown.view).document in new ≡ old
    ++ written_all (some_row_ops (option_map (ended_in d) (slice_get (stored_rows_for term d) i))))

-- the row with a number, if there is one, is added as it is shown where each line is one
-- row and nothing in it is selected
abbrev pub WritesCropped : ShownRows → ℕ → (old new : List ℕ) → Type 0
WritesCropped shown i old new =
    (term : Option Re) → IsFoundAt term (viewed shown.view) i
    → (let d = (viewed shown.view).document in new ≡ old
    ++ written_all (some_row_ops (option_map (ended_in d) (cropped_row term d shown.left_mark i))))

-- the row with a number, if there is one, is added as it is shown where nothing in it is selected
abbrev pub WritesUnmarked : ShownRows → ℕ → (old new : List ℕ) → Type 0
WritesUnmarked shown i old new =
    (term : Option Re) → IsFoundAt term (viewed shown.view) i
    → new ≡ old ++ written_all (some_row_ops (unmarked_row term (viewed shown.view).document shown.left_mark i))

-- the row with a number, if there is one, is added as it is shown
abbrev pub WritesShown : ShownRows → ℕ → (old new : List ℕ) → Type 0
WritesShown shown i old new =
    (term : Option Re) → IsFoundAt term (viewed shown.view) i
    → new ≡ old ++ written_all
    (some_row_ops (shown_row term (viewed shown.view).document shown.left_mark (ends_in_order shown.ends) i))
