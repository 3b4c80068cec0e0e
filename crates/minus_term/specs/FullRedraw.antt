-- The drawing of a whole page.
use Rattle.std.specs.Prelude.{◌≡◌, ℕ, ◌-◌, ◌<◌, ◌≤◌, ◌==◌, List, [], ◌∷◌, ◌++◌, length, replicate, flat_map, None}
use Rattle.std.specs.Prelude.{if◌then◌else◌}
use Rattle.minus_term.specs.PageRows.{page_len}
use Rattle.minus_term.specs.Operations.{Op, ClearAll, ClearRow, GoTo, Return, NextRow, Put}
use Rattle.minus_term.specs.PlayedScreen.{ShownPage, PlayedScreen, Shows, play_all}
use Rattle.minus_term.specs.Puts.{puts}

-- a row of text, and on to the next row
abbrev pub row_ops : List ℕ → List Op
row_ops text = Return ∷ Put text ∷ NextRow ∷ []

-- the operations that put the prompt into the last row of a terminal with this number of
-- rows; an empty prompt is not put
abbrev pub prompt_ops : ℕ → List ℕ → List Op
prompt_ops rows prompt = GoTo 0 rows ∷ Return ∷ ClearRow ∷ (if length prompt == 0 then [] else Put prompt ∷ [])

-- the whole page: the shown rows from the top of a blank screen, then the prompt
abbrev pub full_ops : ℕ → List (List ℕ) → List ℕ → List Op
full_ops rows shown prompt = GoTo 0 0 ∷ ClearAll ∷ flat_map row_ops shown ++ prompt_ops rows prompt

-- the page of a terminal with this number of rows: the shown rows at its top, blank rows
-- after them, and the prompt in its last row
abbrev pub page_of : ℕ → List (List ℕ) → List ℕ → ShownPage
page_of rows shown prompt =
    record { texts = shown ++ replicate (page_len rows - length shown) [] ++ prompt ∷ []; cursor = None }

-- the drawing of the whole page shows it, whatever the screen showed before
abbrev pub FullRedrawShowsItsPage : Type 0
FullRedrawShowsItsPage =
    (rows : ℕ) (shown : List (List ℕ)) (prompt : List ℕ) (s : PlayedScreen) → length s.texts ≡ rows
    → length shown < rows
    → Shows (play_all (full_ops rows shown prompt) s) (page_of rows shown prompt)

-- the drawing of the whole page puts no more texts than there are shown rows; the prompt is not counted
abbrev pub FullRedrawPutsFew : Type 0
FullRedrawPutsFew =
    (rows : ℕ) (shown : List (List ℕ)) (prompt : List ℕ) (s : PlayedScreen) → length s.texts ≡ rows
    → length shown < rows
    → puts (full_ops rows shown prompt) s ≤ length shown
