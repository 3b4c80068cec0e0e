-- What stands in options, and where it ends.
use Rattle.std.specs.Prelude.{ℕ, ◌+◌, ◌==◌, ◌&&◌, ◌||◌, Bool, not, List, [], ◌∷◌, if◌then◌else◌, length, nat_lt}
use Rattle.std.specs.Prelude.{slice_range, slice_index}
use Rattle.std.specs.Int.{is_in_range}
use Rattle.std.specs.List.{prefix_len}
use Rattle.minus_view.specs.declared.arguments.reading.Class.{Class}
use Rattle.minus_view.specs.declared.arguments.reading.Class.TheVariants.{Blank, Name, Word, Text, Digits}
use Rattle.minus_view.specs.declared.arguments.option_table.Valued.{Valued}
use Rattle.minus_view.specs.declared.arguments.option_table.Valued.TheVariants as valued

-- a place in a text lies between two characters, or at an end
abbrev pub is_between : List ℕ → ℕ → Bool
is_between text at =
    if nat_lt at (length text) then not (is_in_range 0x80 0xBF (slice_index text at)) else at == length text

-- a text from one place to another one; no text where one of them lies in a character
abbrev pub cut : List ℕ → ℕ → ℕ → List ℕ
cut text from to =
    if not (nat_lt to from) && is_between text from && is_between text to then slice_range text from to else []

-- whether a byte is a blank: a space or a tab
abbrev pub is_blank : ℕ → Bool
is_blank b = (b == 32) || (b == 9)

-- whether a byte may stand in a blank, in an option's name (no blank, `$` or `=`), in a word (no blank or `$`), in a
-- text (no `$`) or in a number (a digit, `.` or `,`)
abbrev pub is_of : Class → ℕ → Bool
is_of Blank b = is_blank b
is_of Name b = not (is_blank b || (b == 36) || (b == 61))
is_of Word b = not (is_blank b || (b == 36))
is_of Text b = not (b == 36)
is_of Digits b = is_in_range 48 57 b || (b == 46) || (b == 44)

-- how many bytes at the front are of the class
abbrev pub run_of : Class → List ℕ → ℕ
run_of class bytes = prefix_len (is_of class) bytes

-- the length of a number, which may begin with `-`
abbrev pub number_len : List ℕ → ℕ
number_len [] = 0
number_len (b ∷ bytes) = if b == 45 then run_of Digits bytes + 1 else run_of Digits (b ∷ bytes)

-- the length of a value: that of a number, or up to a `$`
abbrev pub value_len : Valued → List ℕ → ℕ
value_len valued.Number bytes = number_len bytes
value_len valued.Tabs bytes = number_len bytes
value_len valued.Text bytes = run_of Text bytes
value_len valued.Pattern bytes = run_of Text bytes
value_len valued.Prompt bytes = run_of Text bytes
value_len valued.Command bytes = run_of Text bytes
