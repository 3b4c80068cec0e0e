-- The drawing of a page whose last rows changed.
use Rattle.std.specs.Prelude.{◌≡◌, ℕ, zero, suc, ◌+◌, ◌-◌, ◌<◌, ◌≤◌, max, List, [], ◌∷◌, length, take, drop}
use Rattle.minus_term.specs.Operations.{Op, ClearRow, GoTo, Put}
use Rattle.minus_term.specs.FullRedraw.{page_of}
use Rattle.minus_term.specs.PlayedScreen.{PlayedScreen, Draws}
use Rattle.minus_term.specs.Puts.{puts}

-- the operations that draw rows of the page again, from row i on, which is counted from 0: each row is made blank,
-- these texts are put, and `blanks` rows after them stay blank
abbrev pub rows_anew : ℕ → List (List ℕ) → ℕ → List Op
rows_anew i [] zero = []
rows_anew i [] (suc blanks) = GoTo 0 i ∷ ClearRow ∷ rows_anew (i + 1) [] blanks
rows_anew i (text ∷ texts) blanks = GoTo 0 i ∷ ClearRow ∷ Put text ∷ rows_anew (i + 1) texts blanks

-- the operations that draw an append: the shown rows from row `first` on, counted from 0, are drawn again, and after
-- them rows are made blank up to the number of rows of text before the append, `were`
abbrev pub append_ops : ℕ → ℕ → List (List ℕ) → List Op
append_ops first were shown = rows_anew first (drop first shown) (were - max first (length shown))

-- an append leads from the page of the old rows of text to that of the new ones, which
-- agree up to the first that changed
abbrev pub AppendShowsItsPage : Type 0
AppendShowsItsPage =
    (rows first : ℕ) (old new : List (List ℕ)) (prompt : List ℕ) → length old < rows → length new < rows
    → first ≤ length new → take first old ≡ take first new
    → Draws (append_ops first (length old) new) (page_of rows old prompt) (page_of rows new prompt)

-- it puts the rows from the first that changed on, and no others
abbrev pub AppendPutsFew : Type 0
AppendPutsFew =
    (first were : ℕ) (new : List (List ℕ)) (s : PlayedScreen) → puts (append_ops first were new) s ≤ length new - first
