-- Numbers that a text writes.
use Rattle.std.specs.Prelude.{ℕ, ◌^◌, nat_lt, List, length, Bool, Option, Some, None, ok_or, ⊤, ◌&&◌, if◌then◌else◌}
use Rattle.std.specs.Str.{all_ascii_digits}
use Rattle.std.specs.Str.Parse.{ParsesUnsigned, without_leading_plus, digits_value}

-- whether the bytes are decimal digits, one or more
abbrev pub is_numeral : List ℕ → Bool
is_numeral digits = nat_lt 0 (length digits) && all_ascii_digits digits

-- the number that decimal digits write, if it fits a `usize`
abbrev pub fitting_value : List ℕ → Option ℕ
fitting_value digits =
    if is_numeral digits && nat_lt (digits_value 10 digits) (2 ^ 64) then Some (digits_value 10 digits) else None

-- the number of a text: a numeral that fits a `usize`, perhaps behind a plus
abbrev pub usize_of : List ℕ → Option ℕ
usize_of text = fitting_value (without_leading_plus text)

-- the number of a text is the one that `parse::<usize>` reads, and there is none where that gives an error
abbrev pub UsizeIsParsed : Type 0
UsizeIsParsed = (text : List ℕ) → ParsesUnsigned 64 10 text (ok_or {T = ℕ} {E = ⊤} (usize_of text) (tt {0}))
