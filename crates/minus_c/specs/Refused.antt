-- The number that stands for a refusal outside.
use Rattle.std.specs.Prelude.{◌≡◌, ℕ, ◌==◌, ◌⊎◌, List, IsUtf8, if◌then◌else◌}
use Rattle.minus_term.specs.declared.error.MinusError.{MinusError}
use Rattle.minus_term.specs.RefusalNumbers.{number_of}

-- its own, or 253 where it has none: 0 stands for no refusal
abbrev pub refusal_number : MinusError → ℕ
refusal_number e = if number_of e == 0 then 253 else number_of e

-- why a text is not read in: out of memory (1), or since it is not UTF-8 (254)
abbrev pub IsUncopied : List ℕ → ℕ → Type 0
IsUncopied text refusal = ((refusal ≡ 1) × IsUtf8 text) ⊎ ((refusal ≡ 254) × (IsUtf8 text → ⊥))
