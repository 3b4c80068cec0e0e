-- Laws of ascending maps from lines to rows.
use Rattle.std.proofs.Common.{◌≡◌, ℕ, zero, suc, ◌+◌, ◌-◌, ◌<◌, ◌≤◌, Bool, List, ◌++◌, length, get_or, eqb, ap, sym, arith, ◌∙◌}
use Rattle.std.specs.List.Sorted.{IsStrictlyIncreasing}
use Rattle.std.proofs.lemmas.List.{length-append, get_or-append-add}
use Rattle.minus_text.specs.LineMaps.{IsLineOfRow, IsLineIn}

-- a later entry is no smaller
pub ascends_far : (xs : List ℕ) → IsStrictlyIncreasing xs → (i n : ℕ) → i + n < length xs → get_or xs i 0 ≤ get_or xs (i + n) 0
ascends_far xs up i zero l = let z : i + 0 ≡ i = omega arith in rw z (omega arith)
ascends_far xs up i (suc n) l =
    let far = ascends_far xs up i n (omega arith) in
    let step = up (i + n) (omega arith) in
    let e : i + suc n ≡ (i + n) + 1 = omega arith in
    rw e (omega arith)

pub ascends_to : (xs : List ℕ) → IsStrictlyIncreasing xs → (i j : ℕ) → i ≤ j → j < length xs → get_or xs i 0 ≤ get_or xs j 0
ascends_to xs up i j le l =
    let e : i + (j - i) ≡ j = omega arith in
    let far = ascends_far xs up i (j - i) (omega arith) in
    rw e at far

-- the line that begins at a row is the row's
pub line_found : (xs : List ℕ) (row i : ℕ) → IsStrictlyIncreasing xs → i < length xs → get_or xs i 0 ≡ row → IsLineOfRow xs row i
line_found xs row i up l e = record {
  within = l;
  begins = λ _. omega arith;
  ends = λ m. let next = up i m in omega arith;
}

-- so is the line before the place where the row would go
pub line_before : (xs : List ℕ) (row i : ℕ) → 0 < length xs → i ≤ length xs → ((k : ℕ) → k < i → get_or xs k 0 < row) → ((k : ℕ) → i ≤ k → k < length xs → row < get_or xs k 0) → IsLineOfRow xs row (i - 1)
line_before xs row i some le below above = record {
  within = omega arith;
  begins = λ m. let b = below (i - 1) (omega arith) in omega arith;
  ends = λ m. above (i - 1 + 1) (omega arith) m;
}

-- ---- entries behind others

-- the line of a row, among entries behind others of which this one is at or before the row
pub line_behind : (xs ys : List ℕ) (n row line : ℕ) (first : Bool) → length xs ≡ n → get_or ys line 0 ≤ row → IsLineOfRow ys row line → first ≡ eqb (get_or ys line 0) row → IsLineIn (xs ++ ys) row (n + line) first
line_behind xs ys n row line first is le of_row e =
    let there : get_or (xs ++ ys) (n + line) 0 ≡ get_or ys line 0 = ap (λ (m : ℕ). get_or (xs ++ ys) (m + line) 0) (sym is) ∙ get_or-append-add xs ys line 0 in
    let next : get_or (xs ++ ys) (n + line + 1) 0 ≡ get_or ys (line + 1) 0 =
    ap (λ (m : ℕ). get_or (xs ++ ys) m 0) (omega (arith, is)) ∙ get_or-append-add xs ys (line + 1) 0 in (
      record {
        within = omega (arith, is, length-append xs ys, of_row.within);
        begins = λ _. rw there le;
        ends = λ m. rw next (of_row.ends (omega (arith, is, length-append xs ys, m)));
      },
      rw there e,
    )
