-- What was found in a row and behind it.
use Rattle.std.proofs.Common.{inl, inr, ◌≡◌, ℕ, suc, ◌+◌, ◌≤◌, true, false, nat_le, List, [], ◌∷◌, ◌++◌, length, arith, refl}
use Rattle.std.specs.List.{position_or_len}
use Rattle.std.proofs.lemmas.Bool.{cases_Bool}
use Rattle.regex.specs.Patterns.{Re}
use Rattle.minus_text.specs.Highlight.{line_matches}
use Rattle.minus_text.specs.Found.{RowMatches, found_in_rows, found_from, Ascend}
use Rattle.minus_text.proofs.FoundInLaws.{rows_ascend}

-- how many stand above a row
abbrev above : ℕ → List RowMatches → ℕ
above n found = position_or_len (λ (f : RowMatches). nat_le n f.row) found

all_from : (m n : ℕ) (found : List RowMatches) → m ≤ n → Ascend n found → found_from m found ≡ found
all_from m n [] le h = refl
all_from m n (r ∷ rs) le h = let t : nat_le m r.row ≡ true = grind (arith, le, h.0) in rw t refl

-- what a term finds in rows, from the first of the last ones on
pub behind_all : (re : Re) (m n : ℕ) (front rows : List (List ℕ)) → m + length front ≡ n → found_from n (found_in_rows re m (front ++ rows)) ≡ found_in_rows re n rows
behind_all re m n [] rows e =
    let same : m ≡ n = omega (arith, e) in
    rw same (all_from n n (found_in_rows re n rows) (omega arith) (rows_ascend re n rows))
behind_all re m n (row ∷ front) rows e =
    let later = behind_all re (m + 1) n front rows (omega (arith, e)) in
    elim (cases_Bool (line_matches re row)) [
      | inl hit ↦
          let f : nat_le n m ≡ false = grind (arith, e) in
          let one : 1 + above n (found_in_rows re (m + 1) (front ++ rows)) ≡ suc (above n (found_in_rows re (m + 1) (front ++ rows))) = omega arith in
          rw (hit, f, one) later
      | inr miss ↦ rw miss later
    ]
