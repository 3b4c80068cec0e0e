-- The text that is copied of a selection: the part of the lines between two places, joined by newlines.
use Rattle.std.specs.Prelude.{ℕ, ◌+◌, ◌==◌, Option, None, Some, List, slice_get, slice_range, if◌then◌else◌}
use Rattle.minus_text.specs.declared.rows.Span.{Span}
use Rattle.minus_text.specs.Document.{Document, rows_of, line_count}
use Rattle.minus_text.specs.LinePlaces.{joined_lines, last_line_end, row_places}
use Rattle.minus_state.specs.declared.copied.Side.{Side}
use Rattle.minus_state.specs.declared.copied.Side.TheVariants.{Before, Behind}
use Rattle.minus_state.specs.declared.selection.Selection.{Selection}
use Rattle.minus_state.specs.VisibleCharacters.{place_of_visible, place_after_visible}

-- a side of the visible character at a column of a row, as a place in the row's bytes;
-- with no such character the end of the row
abbrev pub side_in_row : Side → ℕ → List ℕ → ℕ
side_in_row Before column row = place_of_visible column row
side_in_row Behind column row = place_after_visible column row

-- a place in a row as one in the text, where the row stands at a place of it; another one where there is no such row
abbrev pub moved_to_row : (List ℕ → ℕ) → ℕ → Option Span → Option (List ℕ) → ℕ
moved_to_row place otherwise (Some span) (Some row) = span.start + place row
moved_to_row place otherwise (Some span) None = otherwise
moved_to_row place otherwise None row = otherwise

-- a side of the character at an end of a selection, as a place in a document's text. Rows stand there as parts of their
-- lines, each with what was dropped behind it; a row past the last means the end of the last line
abbrev pub place_in_text : Document → Side → Selection → ℕ
place_in_text d side end =
    moved_to_row (side_in_row side end.col) (last_line_end d.text) (slice_get (row_places d) end.absolute_row)
    (slice_get (rows_of d) end.absolute_row)

-- the text from before the character at the first of two ends up to behind the one at the
-- last, if there are ends and lines
abbrev pub copied : Document → Option (Selection × Selection) → Option (List ℕ)
copied d None = None
copied d (Some ends) =
    if line_count d == 0 then None
    else Some (joined_lines (slice_range d.text (place_in_text d Before ends.0) (place_in_text d Behind ends.1)))
