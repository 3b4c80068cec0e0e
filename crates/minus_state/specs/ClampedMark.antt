-- The clamp of the mark: it is at most the greatest one, at which the last page of the text is full.
use Rattle.std.specs.Prelude.{ℕ, ◌≤◌, ◌==◌, ◌&&◌, nat_lt, min, length, Bool}
use Rattle.minus_term.specs.Top.{top_of}
use Rattle.minus_text.specs.Document.{Document, rows_of}
use Rattle.minus_state.specs.declared.change.Change.{Change}
use Rattle.minus_state.specs.Control.{Control, text_rows}
use Rattle.minus_state.specs.NextTexts.{next_document}

-- the greatest mark: the last page is full where there are rows enough
abbrev pub top : Control → ℕ
top c = top_of (length (text_rows c)) c.rows

-- whether a page that begins at a mark shows the end of a text with `count` rows, more than the `rows` rows of the
-- terminal
abbrev pub shows_end : (count rows mark : ℕ) → Bool
shows_end count rows mark = (mark == top_of count rows) && nat_lt rows count

-- the mark is at most that
abbrev pub clamp : Control → Control
clamp c = record c { mark = min c.mark (top c) }

-- a control whose mark the clamp leaves
abbrev pub IsClamped : Control → Type 0
IsClamped c = c.mark ≤ top c

-- the control that a move of the mark leaves
abbrev pub moved_to : Control → ℕ → Control
moved_to c mark = clamp (record c { mark = mark })

-- the mark that a change leads to is at most the greatest that there will be, where the change is formed beside this
-- document
abbrev pub clamped_beside : Document → Change → Change
clamped_beside document change =
    record change {
      mark = min change.mark (top_of (length (rows_of (next_document document change.text))) change.rows);
    }
