-- What is found in rows, row by row, and before and behind a row.
use Rattle.std.proofs.Common.{inl, inr, ◌≡◌, ℕ, zero, suc, ◌+◌, ◌<◌, ◌≤◌, true, false, cond, nat_le, ltb, List, [], ◌∷◌, ◌++◌, map, length, take, get_or, Option, None, Some, refl, sym, ap, ap₂, ◌∙◌, arith, append_assoc}
use Rattle.std.specs.List.{position_or_len, slice_get}
use Rattle.std.specs.Option.{unwrap_or}
use Rattle.std.proofs.lemmas.Bool.{cases_Bool, cases_lt}
use Rattle.std.proofs.lemmas.List.{append-nil, take_more, length-take-le}
use Rattle.std.proofs.lemmas.Option.{slice_get-get_or}
use Rattle.regex.specs.Patterns.{Re}
use Rattle.minus_text.specs.declared.search.found.FoundRow.{FoundRow}
use Rattle.minus_text.specs.Escapes.{escape_places}
use Rattle.minus_text.specs.Highlight.{line_matches, line_match_places}
use Rattle.minus_text.specs.Found.{RowMatches, found_in_row, found_in_rows, found_above}
use Rattle.minus_text.specs.FoundRows.{matches_of}
use Rattle.minus_text.specs.FoundBy.{found_in_some}

pub found_append : (re : Re) (n : ℕ) (xs ys : List (List ℕ)) → found_in_rows re n (xs ++ ys) ≡ found_in_rows re n xs ++ found_in_rows re (n + length xs) ys
found_append re n [] ys = let z : n + 0 ≡ n = omega arith in ap (λ k. found_in_rows re k ys) (sym z)
found_append re n (x ∷ xs) ys =
    let e : (n + 1) + length xs ≡ n + length (x ∷ xs) = omega arith in
    ap (λ l. found_in_row re n x ++ l) (found_append re (n + 1) xs ys ∙ ap (λ k. found_in_rows re (n + 1) xs ++ found_in_rows re k ys) e)
    ∙ sym (append_assoc (found_in_row re n x) (found_in_rows re (n + 1) xs) (found_in_rows re (n + length (x ∷ xs)) ys))

-- one row more
pub one_more_row : (re : Re) (first i n : ℕ) (rows : List (List ℕ)) (found grown : List RowMatches) (o : Option (List ℕ)) → n ≡ first + i → i < length rows →
    found ≡ found_in_rows re first (take i rows) → o ≡ slice_get rows i → grown ≡ found ++ found_in_some re n o → grown ≡ found_in_rows re first (take (i + 1) rows)
one_more_row re first i n rows found grown o is more so_far here all =
    let row = get_or rows i [] in
    let some : o ≡ Some row = here ∙ slice_get-get_or rows i [] more in
    let size = length-take-le i rows (omega (arith, more)) in
    let at : first + length (take i rows) ≡ n = omega (arith, size, is) in
    all ∙ ap₂ (λ l p. l ++ found_in_some re n p) so_far some
    ∙ ap (λ l. found_in_rows re first (take i rows) ++ l) (sym (append-nil (found_in_row re n row)) ∙ ap (λ k. found_in_rows re k (row ∷ [])) (sym at))
    ∙ sym (found_append re first (take i rows) (row ∷ []))
    ∙ ap (found_in_rows re first) (sym (take_more rows i [] more))

none_above : (re : Re) (n m : ℕ) (rows : List (List ℕ)) → n ≤ m → found_above n (found_in_rows re m rows) ≡ []
none_above re n m [] le = refl
none_above re n m (row ∷ rows) le = elim (cases_Bool (line_matches re row)) [
  | inl hit ↦ let t : nat_le n m ≡ true = grind (arith, le) in rw (hit, t) refl
  | inr miss ↦ rw miss (none_above re n (m + 1) rows (omega (arith, le)))
]

pub above_is_front : (re : Re) (k m n : ℕ) (rows : List (List ℕ)) → n ≡ m + k → found_above n (found_in_rows re m rows) ≡ found_in_rows re m (take k rows)
above_is_front re zero m n rows e = none_above re n m rows (omega (arith, e))
above_is_front re (suc k) m n [] e = refl
above_is_front re (suc k) m n (row ∷ rows) e =
    let later = above_is_front re k (m + 1) n rows (omega (arith, e)) in
    let here : RowMatches = record { row = m; escapes = escape_places row; matches = line_match_places re row; begins = length (line_match_places re row) } in
    elim (cases_Bool (line_matches re row)) [
      | inl hit ↦
          let f : nat_le n m ≡ false = grind (arith, e) in
          let one : 1 + position_or_len (λ x. nat_le n x.row) (found_in_rows re (m + 1) rows) ≡ suc (position_or_len (λ x. nat_le n x.row) (found_in_rows re (m + 1) rows)) = omega arith in
          rw (hit, f, one) (ap (λ l. here ∷ l) later)
      | inr miss ↦ rw miss later
    ]

pub goes_on : (re : Re) (n : ℕ) (rows fresh : List (List ℕ)) → n ≤ length rows →
    found_above n (found_in_rows re 0 rows) ++ found_in_rows re n fresh ≡ found_in_rows re 0 (take n rows ++ fresh)
goes_on re n rows fresh le =
    let zero_n : n ≡ 0 + n = omega arith in
    let size = length-take-le n rows le in
    let at : n ≡ 0 + length (take n rows) = omega (arith, size) in
    ap (λ l. l ++ found_in_rows re n fresh) (above_is_front re n 0 n rows zero_n)
    ∙ ap (λ k. found_in_rows re 0 (take n rows) ++ found_in_rows re k fresh) at
    ∙ sym (found_append re 0 (take n rows) fresh)

count_mapped : (row : ℕ) (fs : List FoundRow) → position_or_len (λ (f : FoundRow). nat_le row f.row) fs ≡ position_or_len (λ (f : RowMatches). nat_le row f.row) (map matches_of fs)
count_mapped row [] = refl
count_mapped row (f ∷ fs) = elim (cases_Bool (nat_le row f.row)) [ inl e ↦ rw e refl | inr e ↦ rw e (ap (λ n. 1 + n) (count_mapped row fs)) ]

found_or_all : (n size : ℕ) → n ≤ size → unwrap_or (cond (ltb n size) (Some n) None) size ≡ n
found_or_all n size le = elim (cases_lt n size) [
  | inl h ↦ let t : ltb n size ≡ true = grind (arith, h) in rw t refl
  | inr h ↦ let f : ltb n size ≡ false = grind (arith, h) in rw f (omega (arith, le, h))
]
