-- How many texts a list of operations puts on a screen.
use Rattle.std.specs.Prelude.{ℕ, ◌+◌, nat_lt, List, [], ◌∷◌, length, Option, Some, None, Bool, true, false}
use Rattle.std.specs.Prelude.{if◌then◌else◌, ◌&&◌, ◌||◌, not}
use Rattle.minus_term.specs.Operations.{Op, NextRow, Put, ScrollUp, ScrollDown}
use Rattle.minus_term.specs.PlayedScreen.{PlayedScreen, is_last_row, play}

-- whether a row, counted from 0, is known to be the last of a screen with this number of rows
abbrev pub is_in_last_row : ℕ → Option ℕ → Bool
is_in_last_row rows None = false
is_in_last_row rows (Some row) = is_last_row rows row

-- whether a row, counted from 0, may be the last of a screen with this number of rows: it is, or it is unknown
abbrev pub may_be_in_last_row : ℕ → Option ℕ → Bool
may_be_in_last_row rows None = true
may_be_in_last_row rows (Some row) = is_last_row rows row

-- whether the operation puts a text
abbrev pub is_put : Op → Bool
is_put (Put text) = true
is_put op = false

-- whether the operation moves the screen's rows: by more than 0, or at the next row of
-- the last row or of an unknown one
abbrev pub scrolls : Op → PlayedScreen → Bool
scrolls (ScrollUp n) s = nat_lt 0 n
scrolls (ScrollDown n) s = nat_lt 0 n
scrolls NextRow s = may_be_in_last_row (length s.texts) s.row
scrolls op s = false

-- whether none of the operations, played from the screen, puts a text or scrolls
abbrev pub is_still : List Op → PlayedScreen → Bool
is_still [] s = true
is_still (op ∷ ops) s = not (is_put op || scrolls op s) && is_still ops (play op s)

-- 1 for an operation that puts a text; 0 for any other, and for the last text where it is put
-- into the last row and nothing scrolls after it
abbrev pub put_of : Op → List Op → PlayedScreen → ℕ
put_of op rest s =
    if is_put op then (if is_in_last_row (length s.texts) s.row && is_still rest (play op s) then 0 else 1) else 0

-- the number of texts that the operations put, played from the screen; the last text is not counted where it is put
-- into the last row and nothing scrolls after it
abbrev pub puts : List Op → PlayedScreen → ℕ
puts [] s = 0
puts (op ∷ ops) s = put_of op ops s + puts ops (play op s)
