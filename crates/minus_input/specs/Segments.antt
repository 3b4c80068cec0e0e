-- The segments of a description.
use Rattle.std.specs.Prelude.{ℕ, ◌==◌, List, [], ◌∷◌, Bool}
use Rattle.std.specs.List.{slice_split}

-- whether a byte is a dash
abbrev pub is_dash : ℕ → Bool
is_dash byte = byte == 45

-- the segments of a text: what stands between its dashes
abbrev pub segments : List ℕ → List (List ℕ)
segments text = slice_split is_dash text

-- the segments that a dash follows: all but the last
abbrev pub leading : List (List ℕ) → List (List ℕ)
leading [] = []
leading (last ∷ []) = []
leading (segment ∷ next ∷ more) = segment ∷ leading (next ∷ more)

-- the last segment
abbrev pub last_segment : List (List ℕ) → List ℕ
last_segment [] = []
last_segment (last ∷ []) = last
last_segment (segment ∷ next ∷ more) = last_segment (next ∷ more)
