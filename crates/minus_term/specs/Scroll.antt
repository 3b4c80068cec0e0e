-- The drawing of a page whose mark moved.
use Rattle.std.specs.Prelude.{ℕ, ◌+◌, ◌-◌, ◌≤◌, nat_le, min, List, ◌∷◌, ◌++◌, length, take, drop, ◌≡◌, if◌then◌else◌}
use Rattle.std.specs.List.{flat_map}
use Rattle.minus_term.specs.Operations.{Op, ClearRow, GoTo, ScrollUp, ScrollDown}
use Rattle.minus_term.specs.FullRedraw.{row_ops, prompt_ops, page_of}
use Rattle.minus_term.specs.PageRows.{page_len}
use Rattle.minus_term.specs.PlayedScreen.{PlayedScreen, Draws}
use Rattle.minus_term.specs.Puts.{puts}

-- the rows of text that the page of a terminal with this number of rows shows from a mark on
abbrev pub shown_from : ℕ → ℕ → List (List ℕ) → List (List ℕ)
shown_from rows mark text = take (page_len rows) (drop mark text)

-- the page's rows move up by k, the row in which the prompt stood becomes blank, and the
-- last k rows of text are put; then the prompt
abbrev pub down_ops : ℕ → ℕ → List (List ℕ) → List ℕ → List Op
down_ops rows k shown prompt =
    ScrollUp k ∷ GoTo 0 (rows - k - 1) ∷ ClearRow ∷ flat_map row_ops (drop (page_len rows - k) shown)
    ++ prompt_ops rows prompt

-- the page's rows move down by k, and the first k rows of text are put; then the prompt
abbrev pub up_ops : ℕ → ℕ → List (List ℕ) → List ℕ → List Op
up_ops rows k shown prompt = ScrollDown k ∷ GoTo 0 0 ∷ flat_map row_ops (take k shown) ++ prompt_ops rows prompt

-- the operations that lead from one mark to another on a terminal with this number of rows: no row
-- moves further than the page has rows of text
abbrev pub scroll_ops : ℕ → ℕ → ℕ → List (List ℕ) → List ℕ → List Op
scroll_ops rows from to shown prompt =
    if nat_le from to then down_ops rows (min (to - from) (page_len rows)) shown prompt
    else up_ops rows (min (from - to) (page_len rows)) shown prompt

-- the rows between two marks
abbrev pub distance : ℕ → ℕ → ℕ
distance from to = (to - from) + (from - to)

-- a scroll leads from the page at one mark to the page at another, whatever prompt stood there and stands there now
abbrev pub ScrollShowsItsPage : Type 0
ScrollShowsItsPage =
    (rows from to : ℕ) (text : List (List ℕ)) (old new : List ℕ) → 1 ≤ rows
    → Draws (scroll_ops rows from to (shown_from rows to text) new) (page_of rows (shown_from rows from text) old)
    (page_of rows (shown_from rows to text) new)

-- a scroll puts no more texts than rows are moved, and no more than the page has rows of
-- text; the prompt is not counted
abbrev pub ScrollPutsFew : Type 0
ScrollPutsFew =
    (rows from to : ℕ) (text : List (List ℕ)) (new : List ℕ) (s : PlayedScreen) → 1 ≤ rows → length s.texts ≡ rows
    → puts (scroll_ops rows from to (shown_from rows to text) new) s ≤ min (distance from to) (page_len rows)
