-- What fits on a row.
-- With the proofs that the division into runs needs.
use Rattle.std.proofs.Common.{ℕ, ◌+◌, ◌≤◌, ◌||◌, Bool, nat_le, List, [], ◌∷◌, ◌++◌, length, arith, inl, inr}
use Rattle.std.proofs.lemmas.Bool.{leb-true, le-leb, or_cases, or_left, or_right}
use Rattle.std.proofs.lemmas.List.{length-append}
use Rattle.minus_text.specs.Pieces.{Piece, piece_columns}
use Rattle.minus_text.specs.Runs.{IsFitRule}

-- the columns of a run, its last spaces aside
abbrev pub run_columns : List Piece → ℕ
run_columns [] = 0
run_columns (p ∷ []) = piece_columns p
run_columns (p ∷ q ∷ ps) = (piece_columns p + p.spaces) + run_columns (q ∷ ps)

-- a single piece fits, and a run that takes at most these columns
abbrev pub fits_row : ℕ → List Piece → Bool
fits_row cols run = nat_le (length run) 1 || nat_le (run_columns run) cols

columns_front : (ps qs : List Piece) → run_columns ps ≤ run_columns (ps ++ qs)
columns_front [] qs = omega arith
columns_front (a ∷ []) [] = omega arith
columns_front (a ∷ []) (q ∷ qs) = omega arith
columns_front (a ∷ b ∷ ps) qs = omega (arith, columns_front (b ∷ ps) qs)

-- one piece fits on a row, and a front of what fits does, whatever the columns
pub row_rule : (cols : ℕ) → IsFitRule (fits_row cols)
row_rule cols = record {
  one = λ p. or_left (nat_le (length (p ∷ [])) 1) (nat_le (run_columns (p ∷ [])) cols)
      (le-leb (length (p ∷ [])) 1 (omega arith));
  front = λ ps qs h. elim (or_cases (nat_le (length (ps ++ qs)) 1) (nat_le (run_columns (ps ++ qs)) cols) h) [
    | inl e ↦
        let l = leb-true (length (ps ++ qs)) 1 e in
        or_left (nat_le (length ps) 1) (nat_le (run_columns ps) cols)
        (le-leb (length ps) 1 (omega (arith, length-append ps qs)))
    | inr e ↦
        let l = leb-true (run_columns (ps ++ qs)) cols e in
        or_right (nat_le (length ps) 1) (nat_le (run_columns ps) cols)
        (le-leb (run_columns ps) cols (omega (arith, columns_front ps qs)))
  ];
}
