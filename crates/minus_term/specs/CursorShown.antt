-- Whether a terminal shows its cursor.
use Rattle.std.specs.Prelude.{List, [], ◌∷◌, Bool, true, false, is_some}
use Rattle.minus_term.specs.Operations.{Op, ShowCursor, HideCursor}
use Rattle.minus_term.specs.PlayedScreen.{ShownPage}

-- whether the cursor is shown after one operation, where it was before or not
abbrev pub switched : Op → Bool → Bool
switched ShowCursor is_shown = true
switched HideCursor is_shown = false
switched op is_shown = is_shown

-- after the operations, one after another
abbrev pub cursor_shown : List Op → Bool → Bool
cursor_shown [] is_shown = is_shown
cursor_shown (op ∷ ops) is_shown = cursor_shown ops (switched op is_shown)

-- whether a page has the cursor at a place
abbrev pub has_cursor : ShownPage → Bool
has_cursor page = is_some page.cursor
