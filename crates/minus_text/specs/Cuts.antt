-- A list cut from the left, again and again: `rule` tells how long the first part of what is left is.
use Rattle.std.specs.Prelude.{ℕ, zero, suc, List, [], ◌∷◌, length, take, drop}

-- at most n parts
abbrev pub cuts_up_to : {X : Type 0} → ℕ → (List X → ℕ) → List X → List (List X)
cuts_up_to zero rule xs = []
cuts_up_to (suc n) rule [] = []
cuts_up_to (suc n) rule (x ∷ xs) = take (rule (x ∷ xs)) (x ∷ xs) ∷ cuts_up_to n rule (drop (rule (x ∷ xs)) (x ∷ xs))

-- all parts: there are no more than elements
unfoldable pub cuts : {X : Type 0} → (List X → ℕ) → List X → List (List X)
cuts rule xs = cuts_up_to (length xs) rule xs
