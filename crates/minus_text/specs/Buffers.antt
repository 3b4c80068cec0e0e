-- What is put into a buffer of rows.
use Rattle.std.specs.Prelude.{◌≡◌, ℕ, ◌+◌, List, [], ◌∷◌, ◌++◌, take, Option, IfSome}

-- the rows of a buffer grew by a text, if it is known
abbrev pub GrowsByText : List (List ℕ) → List (List ℕ) → Option (List ℕ) → Type 0
GrowsByText old new text = IfSome text (λ bytes. new ≡ old ++ bytes ∷ [])

-- a text was put at a place behind the rows before it, if it is known
abbrev pub PutsText : ℕ → List (List ℕ) → List (List ℕ) → Option (List ℕ) → Type 0
PutsText at old new text = IfSome text (λ bytes. take (at + 1) new ≡ take at old ++ bytes ∷ [])
