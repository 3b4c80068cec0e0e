-- Printable ASCII, and texts without ESC.
use Rattle.std.specs.Prelude.{ℕ, ◌==◌, Bool, not}
use Rattle.std.specs.Int.{is_in_range}

-- a space, or a character of ASCII that is seen: it takes one byte and one column
abbrev pub is_printable : ℕ → Bool
is_printable c = is_in_range 0x20 0x7E c

-- no ESC, with which alone a sequence begins
abbrev pub is_unescaped : ℕ → Bool
is_unescaped c = not (c == 27)
