-- Where what is selected begins in the displayed text.
use Rattle.std.specs.Prelude.{ℕ, slice_get}
use Rattle.minus_text.specs.Document.{Document, rows_of}
use Rattle.minus_text.specs.LinePlaces.{last_line_end, row_places}
use Rattle.minus_state.specs.Copied.{moved_to_row}
use Rattle.minus_state.specs.VisibleCharacters.{place_of_visible}
use Rattle.minus_state.specs.declared.selection.Selection.{Selection}

-- the place, in bytes of the text, of the character at an end of a selection; the end of
-- the last line, where there is no such row
abbrev pub begins_at : Document → Selection → ℕ
begins_at d end =
    moved_to_row (place_of_visible end.col) (last_line_end d.text) (slice_get (row_places d) end.absolute_row)
    (slice_get (rows_of d) end.absolute_row)
