-- What stands before the rows of a text whose lines have numbers. Numbers of lines count from 1.
use Rattle.std.specs.Prelude.{◌≡◌, ℕ, ◌+◌, ◌-◌, Bool, true, false, List, [], ◌∷◌, ◌++◌, length, replicate, codes}
use Rattle.std.specs.Fmt.{decimal}
use Rattle.minus_text.specs.declared.line_numbers.LineNumbers.{LineNumbers}
use Rattle.minus_text.specs.declared.line_numbers.LineNumbers.TheVariants.{AlwaysOn, Enabled, Disabled, AlwaysOff}

-- whether rows begin with numbers
abbrev pub is_on : LineNumbers → Bool
is_on AlwaysOn = true
is_on Enabled = true
is_on Disabled = false
is_on AlwaysOff = false

-- the two that a user may exchange are exchanged
abbrev pub toggled : LineNumbers → LineNumbers
toggled AlwaysOn = AlwaysOn
toggled Enabled = Disabled
toggled Disabled = Enabled
toggled AlwaysOff = AlwaysOff

-- numbers toggled twice are as they were; those that are always on or always off stay
pub record NumbersToggleTwice : Type 0 where
  pub twice : (numbers : LineNumbers) → toggled (toggled numbers) ≡ numbers
  pub on_stays : toggled AlwaysOn ≡ AlwaysOn
  pub off_stays : toggled AlwaysOff ≡ AlwaysOff

-- the columns of a number with its stop, where the text has this many lines: its digits and six more
unfoldable pub padding : ℕ → ℕ
padding line_count = length (decimal line_count) + 6

-- what stands before the first row of a line: its number in bold, `ESC[1m` to `ESC[0m`, at the right of the padding,
-- and a space
unfoldable pub number_prefix : ℕ → ℕ → List ℕ
number_prefix line_count line =
    replicate (padding line_count - length (decimal line) - 1) 32 ++ (27 ∷ codes "[1m") ++ decimal line ++ codes "."
    ++ (27 ∷ codes "[0m") ++ codes " "

-- this many spaces, a number in bold with its stop, and a space
abbrev pub numbered : ℕ → ℕ → List ℕ
numbered spaces line =
    replicate spaces 32 ++ (27 ∷ codes "[1m") ++ decimal line ++ codes "." ++ (27 ∷ codes "[0m") ++ codes " "

-- what stands before a row of a line, where numbers are on or not
abbrev pub prefix : Bool → ℕ → ℕ → Bool → List ℕ
prefix false line_count line is_first = []
prefix true line_count line true = number_prefix line_count line
prefix true line_count line false = replicate (padding line_count + 1) 32

-- the columns that this takes
abbrev pub prefix_columns : Bool → ℕ → ℕ
prefix_columns false line_count = 0
prefix_columns true line_count = padding line_count + 1
