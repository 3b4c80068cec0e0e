-- What is shown of rows, whatever the term that they were searched for.
use Rattle.std.specs.Prelude.{◌≡◌, ℕ, true, List, Option, None, string_bytes}
use Rattle.regex.specs.Patterns.{Re}
use Rattle.minus_text.specs.Searched.{Searched, IsFoundAt, IsFoundBetween, IsPlainView}
use Rattle.minus_text.specs.Views.{viewed}
use Rattle.minus_state.specs.Selection.{ends_in_order}
use Rattle.minus_state.specs.ShownRow.{cropped_row, laid_row, unmarked_row, shown_row, shown_rows}
use Rattle.minus_state.specs.declared.selection.SelectionEnds.{SelectionEnds}
use Rattle.minus_state.specs.declared.showing.ShownRow.{ShownRow}
use Rattle.minus_state.specs.declared.showing.ShownRow.TheVariants.{Own, Formed}
use Rattle.minus_state.specs.declared.showing.ShownRows.{ShownRows}

-- the text of a shown row
abbrev pub row_text : ShownRow → List ℕ
row_text (Own row) = row.now
row_text (Formed row) = string_bytes row

-- the row with a number, if there is one, is shown so, where each line is one row and nothing in it is selected
abbrev pub IsCroppedRow : ShownRows → ℕ → Option (List ℕ) → Type 0
IsCroppedRow shown i row =
    (term : Option Re) → IsFoundAt term (viewed shown.view) i
    → row ≡ cropped_row term (viewed shown.view).document shown.left_mark i

-- the row with a number, if there is one, is laid out so
abbrev pub IsLaidRow : ShownRows → ℕ → Option (List ℕ) → Type 0
IsLaidRow shown i row =
    (term : Option Re) → IsFoundAt term (viewed shown.view) i
    → row ≡ laid_row term (viewed shown.view).document shown.left_mark i

-- the row with a number, if there is one, is shown so, where nothing in it is selected
abbrev pub IsUnmarkedRow : ShownRows → ℕ → Option (List ℕ) → Type 0
IsUnmarkedRow shown i row =
    (term : Option Re) → IsFoundAt term (viewed shown.view) i
    → row ≡ unmarked_row term (viewed shown.view).document shown.left_mark i

-- the row with a number, if there is one, is shown so
abbrev pub IsShownRow : ShownRows → ℕ → Option (List ℕ) → Type 0
IsShownRow shown i row =
    (term : Option Re) → IsFoundAt term (viewed shown.view) i
    → row ≡ shown_row term (viewed shown.view).document shown.left_mark (ends_in_order shown.ends) i

-- the rows from one on, and before another, are shown so
abbrev pub AreShownRows : ShownRows → (start end : ℕ) → List (List ℕ) → Type 0
AreShownRows shown start end rows =
    (term : Option Re) → IsFoundBetween term (viewed shown.view) start end
    → rows ≡ shown_rows term (viewed shown.view).document shown.left_mark (ends_in_order shown.ends) start end

-- each row is shown as its own text: lines are wrapped, nothing is selected, and each row is stored so
pub record ShowsOwnTexts (s : Searched) (ends : SelectionEnds) : Type 0 where
  pub wrapped : s.document.layout.wrapping ≡ true
  pub unselected : ends_in_order ends ≡ None
  pub plain : IsPlainView s
