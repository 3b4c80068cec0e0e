-- What is found in some of the rows.
use Rattle.std.proofs.Common.{inl, inr, ◌≡◌, ℕ, zero, suc, ◌+◌, ◌-◌, ◌<◌, ◌≤◌, false, cond, eqb, List, [], ◌∷◌, ◌++◌, length, take, drop, Option, None, Some, refl, sym, ap, ◌∙◌, min, le_of_lt, arith}
use Rattle.std.specs.List.{slice_get}
use Rattle.std.proofs.lemmas.Bool.{cases_Bool, cases_lt, ne_eqb}
use Rattle.std.proofs.Math.Nat.{min-eq_left, min-eq_right}
use Rattle.std.proofs.lemmas.List.{take_all, length-drop}
use Rattle.regex.specs.Patterns.{Re}
use Rattle.minus_text.specs.Highlight.{line_matches, line_match_places}
use Rattle.minus_text.specs.Escapes.{escape_places}
use Rattle.minus_text.specs.Found.{RowMatches, found_in_rows, found_by, found_of_row, Ascend}
use Rattle.minus_text.specs.FoundBy.{found_in_some}
use Rattle.minus_text.proofs.FoundByLaws.{one_more_row}
use Rattle.minus_text.proofs.FoundInLaws.{rows_ascend, found_ascend, none_later, weaker}

pub get_dropped : {X : Type 0} (xs : List X) (s i : ℕ) → s ≤ i → slice_get (drop s xs) (i - s) ≡ slice_get xs i
get_dropped xs zero i le = let z : i - 0 ≡ i = omega arith in rw z refl
get_dropped [] (suc s) i le = refl
get_dropped (x ∷ xs) (suc s) zero le = absurd (omega (arith, le))
get_dropped (x ∷ xs) (suc s) (suc i) le = let z : suc i - suc s ≡ i - s = omega arith in rw z (get_dropped xs s i (omega (arith, le)))

more_dropped : {X : Type 0} (xs : List X) (s i : ℕ) → s ≤ i → i < length xs → i - s < length (drop s xs)
more_dropped xs zero i le lt = omega (arith, lt)
more_dropped [] (suc s) i le lt = absurd (omega (arith, lt))
more_dropped (x ∷ xs) (suc s) zero le lt = absurd (omega (arith, le))
more_dropped (x ∷ xs) (suc s) (suc i) le lt = let more = more_dropped xs s i (omega (arith, le)) (omega (arith, lt)) in omega (arith, more)

pub nothing_from : (re : Re) (start : ℕ) (rows : List (List ℕ)) → [] ≡ found_in_rows re start (take (start - start) (drop start rows))
nothing_from re start rows = let z : start - start ≡ 0 = omega arith in rw z refl

-- one row more, in rows from one on
pub one_more_from : (re : Re) (start i : ℕ) (rows : List (List ℕ)) (found grown : List RowMatches) (o : Option (List ℕ)) → start ≤ i → i < length rows →
    found ≡ found_in_rows re start (take (i - start) (drop start rows)) → o ≡ slice_get rows i → grown ≡ found ++ found_in_some re i o →
    grown ≡ found_in_rows re start (take ((i + 1) - start) (drop start rows))
one_more_from re start i rows found grown o le lt so_far here all =
    let at : i ≡ start + (i - start) = omega (arith, le) in
    let next : (i - start) + 1 ≡ (i + 1) - start = omega (arith, le) in
    one_more_row re start (i - start) i (drop start rows) found grown o at (more_dropped rows start i le lt) so_far (here ∙ sym (get_dropped rows start i le)) all
    ∙ ap (λ k. found_in_rows re start (take k (drop start rows))) next

-- a walk from one on that came to the end, or to the last of them all
pub all_of_some : {X : Type 0} (xs : List X) (start end i last size : ℕ) → last ≡ min end size → size ≡ length xs → start ≤ i → last ≤ i → i - start ≤ end - start →
    take (i - start) (drop start xs) ≡ take (end - start) (drop start xs)
all_of_some xs start end i last size bound all from past within = elim (cases_lt size end) [
  | inr ge ↦
      let stop : last ≡ end = bound ∙ min-eq_left {n = end} {m = size} ge in
      let same : i - start ≡ end - start = omega (arith, stop, from, past, within) in
      ap (λ k. take k (drop start xs)) same
  | inl lt ↦
      let stop : last ≡ size = bound ∙ min-eq_right {n = size} {m = end} (le_of_lt lt) in
      let few : length (drop start xs) ≤ i - start = omega (arith, stop, past, all, length-drop start xs) in
      take_all (i - start) (drop start xs) few ∙ sym (take_all (end - start) (drop start xs) (omega (arith, few, within)))
]

-- the first this many rows
of_front : (re : Re) (k m i : ℕ) (rows : List (List ℕ)) → i < m + k → found_of_row i (found_in_rows re m (take k rows)) ≡ found_of_row i (found_in_rows re m rows)
of_front re zero m i rows lt = sym (none_later i m (found_in_rows re m rows) (omega (arith, lt)) (rows_ascend re m rows))
of_front re (suc k) m i [] lt = refl
of_front re (suc k) m i (row ∷ rows) lt =
    let later = of_front re k (m + 1) i rows (omega (arith, lt)) in
    let here : RowMatches = record { row = m; escapes = escape_places row; matches = line_match_places re row; begins = length (line_match_places re row) } in
    elim (cases_Bool (line_matches re row)) [
      | inl hit ↦ rw hit (ap (λ o. cond (eqb m i) (Some here) o) later)
      | inr miss ↦ rw miss later
    ]

-- the rows from one on
of_back : (re : Re) (s m n i : ℕ) (rows : List (List ℕ)) → n ≡ m + s → n ≤ i → found_of_row i (found_in_rows re n (drop s rows)) ≡ found_of_row i (found_in_rows re m rows)
of_back re zero m n i rows e le = let same : n ≡ m = omega (arith, e) in ap (λ k. found_of_row i (found_in_rows re k rows)) same
of_back re (suc s) m n i [] e le = refl
of_back re (suc s) m n i (row ∷ rows) e le =
    let later = of_back re s (m + 1) n i rows (omega (arith, e)) le in
    let other : eqb m i ≡ false = ne_eqb m i (λ z. omega (arith, z, e, le)) in
    elim (cases_Bool (line_matches re row)) [
      | inl hit ↦ rw (hit, other) later
      | inr miss ↦ rw miss later
    ]

-- what is found in a row of some is what is found in it among all
pub of_some : (term : Option Re) (start end i : ℕ) (rows : List (List ℕ)) → start ≤ i → i < end →
    found_of_row i (found_by term start (take (end - start) (drop start rows))) ≡ found_of_row i (found_by term 0 rows)
of_some None start end i rows le lt = refl
of_some (Some re) start end i rows le lt =
    of_front re (end - start) start i (drop start rows) (omega (arith, le, lt))
    ∙ of_back re start 0 start i rows (omega arith) le

pub some_ascend : (term : Option Re) (n : ℕ) (rows : List (List ℕ)) → Ascend 0 (found_by term n rows)
some_ascend term n rows = weaker 0 n (found_by term n rows) (omega arith) (found_ascend term n rows)
