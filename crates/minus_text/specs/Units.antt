-- The units of a text and their columns. A text is here the list of its characters.
use Rattle.std.specs.Prelude.{ℕ, ◌+◌, ◌-◌, ◌==◌, ◌&&◌, Bool, false, List, [], ◌∷◌, length, drop, unwrap_or}
use Rattle.std.specs.Prelude.{if◌then◌else◌, chars}
use Rattle.std.specs.List.{sum_by, position_or_len}
use Rattle.std.specs.Int.{is_in_range}
use Rattle.unicode_width.specs.Width.{char_width}
use Rattle.minus_text.specs.Cuts.{cuts}

-- the columns of a character; one that has no width takes none
unfoldable pub char_columns : ℕ → ℕ
char_columns c = unwrap_or (char_width false c) 0

-- a character that ends an escape sequence
abbrev pub is_final : ℕ → Bool
is_final c = is_in_range 0x40 0x7E c

-- the text begins with `ESC[`
abbrev pub begins_sequence : List ℕ → Bool
begins_sequence [] = false
begins_sequence (c ∷ []) = false
begins_sequence (c ∷ d ∷ cs) = (c == 27) && (d == 91)

-- how many characters the first unit has: a sequence goes from `ESC[` up to and including the first final
-- character after it, or to the end where there is none; any other character is a unit
abbrev pub unit_len : List ℕ → ℕ
unit_len cs = if begins_sequence cs then 2 + (position_or_len is_final (drop 2 cs) + 1) else 1

-- the units of a text, from the left
abbrev pub units : List ℕ → List (List ℕ)
units cs = cuts unit_len cs

-- the columns of a unit: a sequence takes none
abbrev pub unit_columns : List ℕ → ℕ
unit_columns u = if begins_sequence u then 0 else sum_by char_columns u

-- the columns of a text, unit by unit
abbrev pub unit_columns_in : List ℕ → ℕ
unit_columns_in cs = sum_by unit_columns (units cs)

-- a text without the spaces that end it
abbrev pub body_of : List ℕ → List ℕ
body_of [] = []
body_of (c ∷ cs) = if (c == 32) && (length (body_of cs) == 0) then [] else c ∷ body_of cs

-- the columns of a text taken as one piece, a body and the spaces after it: a space takes one
unfoldable pub text_columns : List ℕ → ℕ
text_columns cs = sum_by unit_columns (units (body_of cs)) + (length cs - length (body_of cs))

-- the columns of a text, given by its bytes
unfoldable pub columns : List ℕ → ℕ
columns text = text_columns (chars text)
