-- Characters, each as a unit of its own.
use Rattle.std.specs.Prelude.{ℕ, List, [], ◌∷◌, map}

-- each character as a list of its own
abbrev pub singles : List ℕ → List (List ℕ)
singles cs = map (λ c. c ∷ []) cs
