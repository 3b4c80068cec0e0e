-- The numbers in a sequence: digits, with `;` between two numbers.
use Rattle.std.specs.Prelude.{ℕ, ◌+◌, ◌-◌, ◌*◌, ◌==◌, List, [], ◌∷◌, Option, Some, None, if◌then◌else◌, min, drop}
use Rattle.std.specs.Int.{is_in_range}
use Rattle.std.specs.List.{prefix_len}

-- the number that the digits at the front make behind `so_far`, at most 65535
abbrev pub number : ℕ → List ℕ → ℕ
number so_far [] = so_far
number so_far (b ∷ bytes) = if is_in_range 48 57 b then number (min (so_far * 10 + (b - 48)) 65535) bytes else so_far

-- what follows these digits
abbrev pub past_number : List ℕ → List ℕ
past_number bytes = drop (prefix_len (is_in_range 48 57) bytes) bytes

-- what follows a `;`
abbrev pub past_semicolon : List ℕ → Option (List ℕ)
past_semicolon [] = None
past_semicolon (b ∷ bytes) = if b == 59 then Some bytes else None
