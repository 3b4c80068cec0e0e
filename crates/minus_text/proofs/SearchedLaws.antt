-- The stored rows of a document under a term.
use Rattle.std.proofs.Common.{inl, inr, ◌≡◌, ℕ, zero, suc, ◌+◌, ◌-◌, ◌<◌, ◌≤◌, Bool, eqb, List, [], ◌∷◌, ◌++◌, length, take, drop, Option, None, Some, option_map, append_assoc, refl, sym, ap, ◌∙◌, arith}
use Rattle.std.specs.List.{slice_get}
use Rattle.std.specs.Str.Lines.{lines}
use Rattle.std.proofs.lemmas.Bool.{cases_lt}
use Rattle.std.proofs.lemmas.List.{append_cancel_right, length-append, length-drop, length-take-le}
use Rattle.regex.specs.Patterns.{Re}
use Rattle.minus_text.specs.declared.layout.Wrap.{Wrap}
use Rattle.minus_text.specs.NumberPrefix.{is_on, prefix}
use Rattle.minus_text.specs.Layouts.{own_rows}
use Rattle.minus_text.specs.Document.{Document, rows_of_lines, rows_of, line_count, wrap_in, stored_line, stored_lines, stored_rows, IsPrefixOf}
use Rattle.minus_text.specs.Found.{RowMatches, found_of_row, marked}
use Rattle.minus_text.specs.Finds.{finds}
use Rattle.minus_text.specs.CarriedStyles.{carried_style}
use Rattle.minus_text.specs.Searched.{Searched, put_row, put_rows, stored_with, stored_rows_for, IsRowBehind}
use Rattle.minus_text.proofs.PendingLaws.{get_behind}
use Rattle.minus_text.proofs.FoundRangeLaws.{get_dropped}
use Rattle.minus_text.proofs.StoredLaws.{row_in_line, at_front, none_alike, length-stored_line}

-- ---- what is put for rows

pub put_at : (found : List RowMatches) (d : Document) (n i k : ℕ) (rows : List (List ℕ)) → k ≡ n + i → slice_get (put_rows found d n rows) i ≡ option_map (put_row found d k) (slice_get rows i)
put_at found d n i k [] is = refl
put_at found d n zero k (row ∷ rows) is = let same : n ≡ k = omega (arith, is) in ap (λ j. Some (put_row found d j row)) same
put_at found d n (suc i) k (row ∷ rows) is = put_at found d (n + 1) i k rows (omega (arith, is))

pub length-put : (found : List RowMatches) (d : Document) (n : ℕ) (rows : List (List ℕ)) → length (put_rows found d n rows) ≡ length rows
length-put found d n [] = refl
length-put found d n (row ∷ rows) = ap suc (length-put found d (n + 1) rows)

-- ---- what stands before a row stands before what is put for it

taken_at : {X : Type 0} (xs : List X) (n i : ℕ) → i < n → slice_get (take n xs) i ≡ slice_get xs i
taken_at xs zero i lt = absurd (omega (arith, lt))
taken_at [] (suc n) i lt = refl
taken_at (x ∷ xs) (suc n) zero lt = refl
taken_at (x ∷ xs) (suc n) (suc i) lt = taken_at xs n i (omega (arith, lt))

with_row : (wrap : Wrap) (on : Bool) (count k : ℕ) (ls : List (List ℕ)) (rows : List (List ℕ)) (i : ℕ) (row put : List ℕ) → length rows ≡ length (rows_of_lines wrap ls) → slice_get (rows_of_lines wrap ls) i ≡ Some row → slice_get rows i ≡ Some put
    → (b : List ℕ) × (slice_get (stored_lines wrap on count k ls) i ≡ Some (b ++ row)) × (slice_get (stored_with wrap on count k ls rows) i ≡ Some (b ++ put))
with_row wrap on count k [] rows i row put size e f = absurd cc
with_row wrap on count k (x ∷ xs) rows i row put size e f =
    let own : List (List ℕ) = own_rows wrap x in
    let n = length own in
    let all = length-append own (rows_of_lines wrap xs) in
    let plain = length-stored_line on count k own in
    let few : n ≤ length rows = omega (arith, size, all) in
    let shown : length (stored_line on count k (take n rows)) ≡ n = length-stored_line on count k (take n rows) ∙ length-take-le n rows few in
    elim (cases_lt i n) [
      | inl lt ↦ (
        prefix on count k (eqb i 0),
        at_front (stored_line on count k own) (stored_lines wrap on count (k + 1) xs) i (omega (arith, lt, plain)) ∙ row_in_line on count k own i row (sym (at_front own (rows_of_lines wrap xs) i lt) ∙ e),
        at_front (stored_line on count k (take n rows)) (stored_with wrap on count (k + 1) xs (drop n rows)) i (omega (arith, lt, shown)) ∙ row_in_line on count k (take n rows) i put (taken_at rows n i lt ∙ f),
      )
      | inr ge ↦
          let left : length (drop n rows) ≡ length (rows_of_lines wrap xs) = omega (arith, length-drop n rows, size, all) in
          let later = with_row wrap on count (k + 1) xs (drop n rows) (i - n) row put left (sym (get_behind own (rows_of_lines wrap xs) i ge) ∙ e) (get_dropped rows n i ge ∙ f) in
          let at : i - length (stored_line on count k own) ≡ i - n = omega (arith, plain) in
          let at2 : i - length (stored_line on count k (take n rows)) ≡ i - n = omega (arith, shown) in (
            later.0,
            get_behind (stored_line on count k own) (stored_lines wrap on count (k + 1) xs) i (omega (arith, ge, plain)) ∙ ap (slice_get (stored_lines wrap on count (k + 1) xs)) at ∙ later.1,
            get_behind (stored_line on count k (take n rows)) (stored_with wrap on count (k + 1) xs (drop n rows)) i (omega (arith, ge, shown)) ∙ ap (slice_get (stored_with wrap on count (k + 1) xs (drop n rows))) at2 ∙ later.2,
          )
    ]

pub stored_for : (term : Option Re) (d : Document) (i : ℕ) (row before : List ℕ) → slice_get (rows_of d) i ≡ Some row → slice_get (stored_rows d) i ≡ Some (before ++ row)
    → slice_get (stored_rows_for term d) i ≡ Some (before ++ put_row (finds term d) d i row)
unfolding rows_of stored_rows stored_rows_for
stored_for term d i row before e s =
    let put : List ℕ = put_row (finds term d) d i row in
    let here : i ≡ 0 + i = omega arith in
    let there : slice_get (put_rows (finds term d) d 0 (rows_of d)) i ≡ Some put = put_at (finds term d) d 0 i i (rows_of d) here ∙ ap (option_map (put_row (finds term d) d i)) e in
    let h = with_row (wrap_in d) (is_on d.layout.numbers) (line_count d) 1 (lines d.text) (put_rows (finds term d) d 0 (rows_of d)) i row put (length-put (finds term d) d 0 (rows_of d)) e there in
    let some : Some (h.0 ++ row) ≡ Some (before ++ row) = sym h.1 ∙ s in
    let both : h.0 ++ row ≡ before ++ row = cc in
    let same : h.0 ≡ before = append_cancel_right h.0 before row both in
    h.2 ∙ ap (λ b. Some (b ++ put)) same

pub length-with : (wrap : Wrap) (on : Bool) (count k : ℕ) (ls : List (List ℕ)) (rows : List (List ℕ)) → length (rows_of_lines wrap ls) ≤ length rows → length (stored_with wrap on count k ls rows) ≡ length (rows_of_lines wrap ls)
length-with wrap on count k [] rows le = refl
length-with wrap on count k (x ∷ xs) rows le =
    let own : List (List ℕ) = own_rows wrap x in
    let n = length own in
    let all = length-append own (rows_of_lines wrap xs) in
    let few : n ≤ length rows = omega (arith, le, all) in
    let here : length (stored_line on count k (take n rows)) ≡ n = length-stored_line on count k (take n rows) ∙ length-take-le n rows few in
    let later = length-with wrap on count (k + 1) xs (drop n rows) (omega (arith, length-drop n rows, le, all)) in
    omega (arith, here, length-append (stored_line on count k (take n rows)) (stored_with wrap on count (k + 1) xs (drop n rows)), all, later)

pub length-stored_for : (term : Option Re) (d : Document) → length (stored_rows_for term d) ≡ length (rows_of d)
unfolding rows_of stored_rows_for
length-stored_for term d =
    let size = length-put (finds term d) d 0 (rows_of d) in
    length-with (wrap_in d) (is_on d.layout.numbers) (line_count d) 1 (lines d.text) (put_rows (finds term d) d 0 (rows_of d)) (omega (arith, size))

pub none_for : (term : Option Re) (d : Document) (i : ℕ) → None ≡ slice_get (rows_of d) i → slice_get (stored_rows_for term d) i ≡ None
none_for term d i e = none_alike (rows_of d) (stored_rows_for term d) i (sym (length-stored_for term d)) (sym e)

-- ---- a row behind what stands before it

pub stored_behind : (term : Option Re) (d : Document) (i : ℕ) (before : List ℕ) → IsPrefixOf d i before
    → option_map (λ text. before ++ carried_style d i ++ marked (found_of_row i (finds term d)) text) (slice_get (rows_of d) i) ≡ slice_get (stored_rows_for term d) i
stored_behind term d i before h = go (slice_get (rows_of d) i) refl
  where
    go : (row : Option (List ℕ)) → slice_get (rows_of d) i ≡ row → option_map (λ text. before ++ carried_style d i ++ marked (found_of_row i (finds term d)) text) row ≡ slice_get (stored_rows_for term d) i
    go None e = sym (none_for term d i (sym e))
    go (Some row) e = ap (λ t. Some t) (append_assoc before (carried_style d i) (marked (found_of_row i (finds term d)) row)) ∙ sym (stored_for term d i row before e (h row e))

-- what was found in a row that is there
pub found_behind : (s : Searched) (i : ℕ) (text before row : List ℕ) → slice_get (rows_of s.document) i ≡ Some text → row ≡ before ++ carried_style s.document i ++ marked (found_of_row i s.found) text → IsRowBehind before s i (Some row)
found_behind s i text before row e r = λ term h.
    let style : List ℕ = carried_style s.document i in
    rw (e, r) (ap (λ o. Some (before ++ style ++ marked o text)) h)
