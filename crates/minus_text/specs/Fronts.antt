-- What fits in a front of a part that is too wide for its columns.
-- With the proofs that the division into runs needs.
use Rattle.std.proofs.Common.{ℕ, ◌≤◌, ◌||◌, Bool, cond, nat_le, nat_lt, List, [], ◌∷◌, ◌++◌, arith, inl, inr}
use Rattle.std.specs.List.{sum_by, count_by}
use Rattle.std.proofs.lemmas.Bool.{cases_Bool, leb-true, le-leb, or_cases, or_left, or_right}
use Rattle.std.proofs.lemmas.List.Sums.{sum_by-append}
use Rattle.minus_text.specs.Units.{unit_columns}
use Rattle.minus_text.specs.Runs.{IsFitRule}

-- a unit with columns
abbrev pub is_wide : List ℕ → Bool
is_wide u = nat_lt 0 (unit_columns u)

-- units fit if they take at most these columns, or one of them at most has columns
abbrev pub fits_front : ℕ → List (List ℕ) → Bool
fits_front cols us = nat_le (sum_by unit_columns us) cols || nat_le (count_by is_wide us) 1

one_wide : (u : List ℕ) → count_by is_wide (u ∷ []) ≤ 1
one_wide u = elim (cases_Bool (is_wide u)) [
  | inl e ↦ rw e (omega arith)
  | inr e ↦ rw e (omega arith)
]

-- one unit fits in a front, and a front of what fits does, whatever the columns
pub front_rule : (cols : ℕ) → IsFitRule (fits_front cols)
front_rule cols = record {
  one = λ u. or_right (nat_le (sum_by unit_columns (u ∷ [])) cols) (nat_le (count_by is_wide (u ∷ [])) 1)
      (le-leb (count_by is_wide (u ∷ [])) 1 (one_wide u));
  front = λ us vs h. elim
      (or_cases (nat_le (sum_by unit_columns (us ++ vs)) cols) (nat_le (count_by is_wide (us ++ vs)) 1) h) [
        | inl e ↦
            let l = leb-true (sum_by unit_columns (us ++ vs)) cols e in
            or_left (nat_le (sum_by unit_columns us) cols) (nat_le (count_by is_wide us) 1)
            (le-leb (sum_by unit_columns us) cols (omega (arith, sum_by-append unit_columns us vs)))
        | inr e ↦
            let l = leb-true (count_by is_wide (us ++ vs)) 1 e in
            or_right (nat_le (sum_by unit_columns us) cols) (nat_le (count_by is_wide us) 1)
            (le-leb (count_by is_wide us) 1 (omega (arith, sum_by-append (λ u. cond (is_wide u) 1 0) us vs)))
      ];
}
