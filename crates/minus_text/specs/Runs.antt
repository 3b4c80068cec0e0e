-- A list divided into consecutive runs, each the longest that fits.
use Rattle.std.specs.Prelude.{◌≡◌, ◌<◌, Bool, true, false, List, [], ◌∷◌, ◌++◌, length}

-- the run would not fit with the next element added
abbrev pub IsFull : {X : Type 0} → (List X → Bool) → List X → List X → Type 0
IsFull fits run [] = Unit {0}
IsFull fits run (x ∷ xs) = fits (run ++ x ∷ []) ≡ false

-- a run of one element at least, which fits and is full
pub record IsRun {X : Type 0} (fits : List X → Bool) (run rest : List X) : Type 0 where
  pub some : 0 < length run
  pub fitting : fits run ≡ true
  pub full : IsFull fits run rest

-- the list is divided into these runs
abbrev pub AreRuns : {X : Type 0} → (List X → Bool) → List X → List (List X) → Type 0
AreRuns {X} fits xs [] = xs ≡ []
AreRuns {X} fits xs (run ∷ runs) = (rest : List X) × (xs ≡ run ++ rest) × IsRun fits run rest × AreRuns fits rest runs

-- a rule of what fits: each element fits by itself, and with a run each front of it
pub record IsFitRule {X : Type 0} (fits : List X → Bool) : Type 0 where
  pub one : (x : X) → fits (x ∷ []) ≡ true
  pub front : (xs ys : List X) → fits (xs ++ ys) ≡ true → fits xs ≡ true
