-- The drawings of the search prompt.
use Rattle.std.specs.Prelude.{◌≡◌, ℕ, ◌≤◌, ◌<◌, List, [], ◌∷◌, ◌++◌, length, Some}
use Rattle.minus_term.specs.Operations.{Op, ClearRow, GoTo, Put, ShowCursor, HideCursor}
use Rattle.minus_term.specs.FullRedraw.{full_ops, page_of}
use Rattle.minus_term.specs.PlayedScreen.{ShownPage, PlayedScreen, Shows, Draws, play_all}
use Rattle.minus_term.specs.Puts.{puts}

-- the page with what is typed, the mark and the query behind it, in its last row, and the
-- cursor at a column of that row
abbrev pub typed_page : ℕ → List (List ℕ) → List ℕ → ℕ → ShownPage
typed_page rows shown typed cursor = record (page_of rows shown typed) { cursor = Some cursor }

-- the operations that open the search prompt in the last row of a terminal with this number of rows: the row is
-- cleared, the mark is put, and the cursor is shown behind it
abbrev pub opening_ops : ℕ → List ℕ → List Op
opening_ops rows mark = GoTo 0 rows ∷ ClearRow ∷ Put mark ∷ ShowCursor ∷ GoTo 1 rows ∷ []

-- the cursor moves to a column of the last row
abbrev pub cursor_ops : ℕ → ℕ → List Op
cursor_ops rows cursor = GoTo cursor rows ∷ []

-- the query was edited: the whole page is drawn, since a preview may change its rows, and the cursor goes to its column
abbrev pub edit_ops : ℕ → List (List ℕ) → List ℕ → ℕ → List Op
edit_ops rows shown typed cursor = full_ops rows shown typed ++ cursor_ops rows cursor

-- the search prompt closes: its row is cleared, the cursor is hidden, and the whole page is drawn
abbrev pub closing_ops : ℕ → List (List ℕ) → List ℕ → List Op
closing_ops rows shown prompt = GoTo 0 rows ∷ ClearRow ∷ HideCursor ∷ full_ops rows shown prompt

-- an opening leads from a page, whatever prompt stood there, to the page with the mark and the cursor behind it
abbrev pub OpeningShowsItsPage : Type 0
OpeningShowsItsPage =
    (rows : ℕ) (shown : List (List ℕ)) (old mark : List ℕ) → length shown < rows
    → Draws (opening_ops rows mark) (page_of rows shown old) (typed_page rows shown mark 1)

-- an opening puts no text but the mark, which is not counted, since it is put last and into the last row
abbrev pub OpeningPutsNone : Type 0
OpeningPutsNone =
    (rows : ℕ) (mark : List ℕ) (s : PlayedScreen) → 1 ≤ rows → length s.texts ≡ rows
    → puts (opening_ops rows mark) s ≡ 0

-- a moved cursor leads from the page with the cursor at one column to the page with it at another
abbrev pub CursorShowsItsPage : Type 0
CursorShowsItsPage =
    (rows : ℕ) (shown : List (List ℕ)) (typed : List ℕ) (from to : ℕ) → length shown < rows
    → Draws (cursor_ops rows to) (typed_page rows shown typed from) (typed_page rows shown typed to)

-- an edit shows its page and the cursor, whatever the screen showed before
abbrev pub EditShowsItsPage : Type 0
EditShowsItsPage =
    (rows : ℕ) (shown : List (List ℕ)) (typed : List ℕ) (cursor : ℕ) (s : PlayedScreen) → length s.texts ≡ rows
    → length shown < rows
    → Shows (play_all (edit_ops rows shown typed cursor) s) (typed_page rows shown typed cursor)

-- a closing shows its page, whatever the screen showed before
abbrev pub ClosingShowsItsPage : Type 0
ClosingShowsItsPage =
    (rows : ℕ) (shown : List (List ℕ)) (prompt : List ℕ) (s : PlayedScreen) → length s.texts ≡ rows
    → length shown < rows
    → Shows (play_all (closing_ops rows shown prompt) s) (page_of rows shown prompt)

-- an edit puts no more texts than there are shown rows; the last row is not counted
abbrev pub EditPutsFew : Type 0
EditPutsFew =
    (rows : ℕ) (shown : List (List ℕ)) (typed : List ℕ) (cursor : ℕ) (s : PlayedScreen) → length s.texts ≡ rows
    → length shown < rows
    → puts (edit_ops rows shown typed cursor) s ≤ length shown

-- a closing puts no more texts than there are shown rows; the last row is not counted
abbrev pub ClosingPutsFew : Type 0
ClosingPutsFew =
    (rows : ℕ) (shown : List (List ℕ)) (prompt : List ℕ) (s : PlayedScreen) → length s.texts ≡ rows
    → length shown < rows
    → puts (closing_ops rows shown prompt) s ≤ length shown
