-- What was found ascends, stands in its rows, and is found again by its number.
use Rattle.std.proofs.Common.{inl, inr, ◌≡◌, ℕ, zero, suc, ◌+◌, ◌-◌, ◌<◌, ◌≤◌, true, false, cond, nat_le, eqb, ltb, List, [], ◌∷◌, ◌++◌, map, length, take, get_or, Option, None, Some, option_map, IfSome, refl, sym, subst, ap, ◌∙◌, arith}
use Rattle.std.specs.List.{position_or_len, slice_get}
use Rattle.std.proofs.lemmas.Bool.{cases_Bool, cases_lt, eqb-true, eq-eqb, ne_eqb}
use Rattle.std.proofs.lemmas.Bool.Decides.{nat_tests}
use Rattle.std.proofs.lemmas.List.{map-append}
use Rattle.std.proofs.lemmas.Option.{slice_get-map}
use Rattle.regex.specs.Patterns.{Re}
use Rattle.minus_text.specs.declared.search.found.FoundRow.{FoundRow}
use Rattle.minus_text.specs.declared.line_numbers.LineNumbers.{LineNumbers}
use Rattle.minus_text.specs.Document.{Document, rows_of, pushed}
use Rattle.minus_text.specs.Fragments.{rows_in}
use Rattle.minus_text.specs.Pending.{Pending, IsPending}
use Rattle.minus_text.specs.Highlight.{line_matches, line_match_places}
use Rattle.minus_text.specs.Escapes.{escape_places}
use Rattle.minus_text.specs.Found.{RowMatches, found_in_rows, found_by, found_above, found_of_row, IsPlaced, IsPlacedSome, IsPlacedIn, ArePlaced, Ascend, AreFoundIn}
use Rattle.minus_text.specs.FoundRows.{matches_of}
use Rattle.minus_text.proofs.PendingLaws.{get_front, get_behind}
use Rattle.std.proofs.lemmas.List.{length-take-le}

-- ---- numbers ascend

pub weaker : (m n : ℕ) (found : List RowMatches) → m ≤ n → Ascend n found → Ascend m found
weaker m n [] le h = tt
weaker m n (r ∷ rs) le h = (omega (arith, le, h.0), h.1)

pub rows_ascend : (re : Re) (n : ℕ) (rows : List (List ℕ)) → Ascend n (found_in_rows re n rows)
rows_ascend re n [] = tt
rows_ascend re n (row ∷ rows) =
    let later = rows_ascend re (n + 1) rows in
    elim (cases_Bool (line_matches re row)) [
      | inl hit ↦ rw hit (omega arith, later)
      | inr miss ↦ rw miss (weaker n (n + 1) (found_in_rows re (n + 1) rows) (omega arith) later)
    ]

pub found_ascend : (term : Option Re) (n : ℕ) (rows : List (List ℕ)) → Ascend n (found_by term n rows)
found_ascend None n rows = tt
found_ascend (Some re) n rows = rows_ascend re n rows

pub put_ascend : (m n : ℕ) (found fresh : List RowMatches) → m ≤ n → Ascend m found → Ascend n fresh → Ascend m (found_above n found ++ fresh)
put_ascend m n [] fresh le h k = weaker m n fresh le k
put_ascend m n (r ∷ rs) fresh le h k = elim (cases_lt r.row n) [
  | inl lt ↦
      let f : nat_le n r.row ≡ false = grind (arith, lt) in
      let one : 1 + position_or_len (λ x. nat_le n x.row) rs ≡ suc (position_or_len (λ x. nat_le n x.row) rs) = omega arith in
      rw (f, one) (h.0, put_ascend (r.row + 1) n rs fresh (omega (arith, lt)) h.1 k)
  | inr ge ↦ let t : nat_le n r.row ≡ true = grind (arith, ge) in rw t (weaker m n fresh le k)
]

least : (n : ℕ) (fs : List FoundRow) (k : ℕ) (d : FoundRow) → Ascend n (map matches_of fs) → k < length fs → n ≤ (get_or fs k d).row
least n [] k d h l = absurd (omega (arith, l))
least n (f ∷ fs) zero d h l = h.0
least n (f ∷ fs) (suc k) d h l = let more = least (f.row + 1) fs k d h.1 (omega (arith, l)) in omega (arith, more, h.0)

pub rows_rise : (n : ℕ) (fs : List FoundRow) → Ascend n (map matches_of fs) → (i j : ℕ) (d : FoundRow) → i ≤ j → j < length fs → (get_or fs i d).row ≤ (get_or fs j d).row
rows_rise n [] h i j d le l = absurd (omega (arith, l))
rows_rise n (f ∷ fs) h zero zero d le l = omega arith
rows_rise n (f ∷ fs) h zero (suc j) d le l = let more = least (f.row + 1) fs j d h.1 (omega (arith, l)) in omega (arith, more)
rows_rise n (f ∷ fs) h (suc i) zero d le l = absurd (omega (arith, le))
rows_rise n (f ∷ fs) h (suc i) (suc j) d le l = rows_rise (f.row + 1) fs h.1 i j d (omega (arith, le)) (omega (arith, l))

-- a place before which all rows stand above one, and behind which none does
pub place_above : (row : ℕ) (fs : List FoundRow) (n : ℕ) → n ≤ length fs → ((k : ℕ) (d : FoundRow) → k < n → ltb (get_or fs k d).row row ≡ true) → ((k : ℕ) (d : FoundRow) → n ≤ k → k < length fs → ltb (get_or fs k d).row row ≡ false)
    → n ≡ position_or_len (λ (f : RowMatches). nat_le row f.row) (map matches_of fs)
place_above row [] n le h k = omega (arith, le)
place_above row (f ∷ fs) zero le h k =
    let b : ltb f.row row ≡ false = k 0 f (omega arith) (omega arith) in
    let t : nat_le row f.row ≡ true = grind (arith, nat_tests, b) in
    rw t refl
place_above row (f ∷ fs) (suc n) le h k =
    let b : ltb f.row row ≡ true = h 0 f (omega arith) in
    let t : nat_le row f.row ≡ false = grind (arith, nat_tests, b) in
    let one : suc n ≡ 1 + n = omega arith in
    rw t (one ∙ ap (λ m. 1 + m) (place_above row fs n (omega (arith, le)) (λ i d l. h (suc i) d (omega (arith, l))) (λ i d l m. k (suc i) d (omega (arith, l)) (omega (arith, m)))))

-- this many rows stand above one: the last of them does, and the first that follows does not
pub above_here : (row : ℕ) (fs : List FoundRow) (n : ℕ) → Ascend 0 (map matches_of fs) → n ≤ length fs → ((d : FoundRow) → 0 < n → (get_or fs (n - 1) d).row < row) → ((d : FoundRow) → n < length fs → row ≤ (get_or fs n d).row)
    → n ≡ position_or_len (λ (f : RowMatches). nat_le row f.row) (map matches_of fs)
above_here row fs n h le before behind =
    place_above row fs n le
    (λ k d l. (
    let rise = rows_rise 0 fs h k (n - 1) d (omega (arith, l)) (omega (arith, l, le)) in
    let less : (get_or fs k d).row < row = omega (arith, rise, before d (omega (arith, l))) in
    grind (arith, nat_tests, less)
    ))
    (λ k d l m. (
    let rise = rows_rise 0 fs h n k d l m in
    let more : row ≤ (get_or fs k d).row = omega (arith, rise, behind d (omega (arith, l, m))) in
    grind (arith, nat_tests, more)
    ))

-- what was found in a row stands there
pub placed_some : (row : List ℕ) (found : Option RowMatches) → IfSome found (λ r. IsPlaced row r) → IsPlacedSome row found
placed_some row None h = tt
placed_some row (Some r) h = h

-- ---- a row by its number

pub none_later : (n m : ℕ) (found : List RowMatches) → n < m → Ascend m found → found_of_row n found ≡ None
none_later n m [] lt h = refl
none_later n m (r ∷ rs) lt h =
    let f : eqb r.row n ≡ false = ne_eqb r.row n (λ e. omega (arith, e, h.0, lt)) in
    rw f (none_later n (r.row + 1) rs (omega (arith, h.0, lt)) h.1)

-- the one at a place, if that is its number
abbrev pub if_numbered : ℕ → Option RowMatches → Option RowMatches
if_numbered n None = None
if_numbered n (Some r) = cond (eqb r.row n) (Some r) None

pub found_at : (n m : ℕ) (found : List RowMatches) → Ascend m found → if_numbered n (slice_get found (position_or_len (λ (f : RowMatches). nat_le n f.row) found)) ≡ found_of_row n found
found_at n m [] h = refl
found_at n m (r ∷ rs) h = elim (cases_lt r.row n) [
  | inl lt ↦
      let f : nat_le n r.row ≡ false = grind (arith, lt) in
      let other : eqb r.row n ≡ false = ne_eqb r.row n (λ e. omega (arith, e, lt)) in
      let one : 1 + position_or_len (λ (x : RowMatches). nat_le n x.row) rs ≡ suc (position_or_len (λ (x : RowMatches). nat_le n x.row) rs) = omega arith in
      rw (f, one, other) (found_at n (r.row + 1) rs h.1)
  | inr ge ↦
      let t : nat_le n r.row ≡ true = grind (arith, ge) in
      elim (cases_Bool (eqb r.row n)) [
        | inl same ↦ rw (t, same) refl
        | inr other ↦
            let past : n < r.row + 1 = omega (arith, ge) in
            rw (t, other) (sym (none_later n (r.row + 1) rs past h.1))
      ]
]

pub row_found : (n : ℕ) (fs : List FoundRow) (at : ℕ) → Ascend 0 (map matches_of fs) → at ≡ position_or_len (λ (f : RowMatches). nat_le n f.row) (map matches_of fs) → if_numbered n (option_map matches_of (slice_get fs at)) ≡ found_of_row n (map matches_of fs)
row_found n fs at h e = ap (if_numbered n) (sym (slice_get-map matches_of fs at) ∙ ap (slice_get (map matches_of fs)) e) ∙ found_at n 0 (map matches_of fs) h

-- what a pattern finds in the row with a number
pub found_of : (re : Re) (m : ℕ) (rows : List (List ℕ)) (i n : ℕ) (row : List ℕ) → n ≡ m + i → slice_get rows i ≡ Some row
    → found_of_row n (found_in_rows re m rows) ≡ cond (line_matches re row) (Some (record { row = n; escapes = escape_places row; matches = line_match_places re row; begins = length (line_match_places re row) })) None
found_of re m [] i n row is e = absurd cc
found_of re m (x ∷ xs) zero n row is e =
    let same : x ≡ row = cc in
    let here : m ≡ n = omega (arith, is) in
    let self : eqb n n ≡ true = eq-eqb n n refl in
    let later : found_of_row n (found_in_rows re (n + 1) xs) ≡ None = none_later n (n + 1) (found_in_rows re (n + 1) xs) (omega arith) (rows_ascend re (n + 1) xs) in
    rw (same, here) (elim (cases_Bool (line_matches re row)) [
      | inl hit ↦ rw (hit, self) refl
      | inr miss ↦ rw miss later
    ])
found_of re m (x ∷ xs) (suc i) n row is e =
    let later = found_of re (m + 1) xs i n row (omega (arith, is)) e in
    let other : eqb m n ≡ false = ne_eqb m n (λ z. omega (arith, z, is)) in
    elim (cases_Bool (line_matches re x)) [
      | inl hit ↦ rw (hit, other) later
      | inr miss ↦ rw miss later
    ]

-- ---- places stand

pub placed_append : (first : ℕ) (rows : List (List ℕ)) (xs ys : List RowMatches) → ArePlaced first rows xs → ArePlaced first rows ys → ArePlaced first rows (xs ++ ys)
placed_append first rows [] ys h k = k
placed_append first rows (x ∷ xs) ys h k = (h.0, placed_append first rows xs ys h.1 k)

pub note_placed : (first : ℕ) (rows : List (List ℕ)) (i n : ℕ) (row : List ℕ) (olds news : List FoundRow) (f : FoundRow) → news ≡ olds ++ f ∷ [] → f.row ≡ n → n ≡ first + i → slice_get rows i ≡ Some row → IsPlaced row (matches_of f)
    → ArePlaced first rows (map matches_of olds) → ArePlaced first rows (map matches_of news)
note_placed first rows i n row olds news f grown is at here stands h =
    let one : IsPlacedIn first rows (matches_of f) = (λ j other e g.
    let same : j ≡ i = omega (arith, e, is, at) in
    let some : Some row ≡ Some other = sym here ∙ ap (slice_get rows) (sym same) ∙ g in
    let text : row ≡ other = cc in
    subst (λ t. IsPlaced t (matches_of f)) text stands) in
    let all : map matches_of news ≡ map matches_of olds ++ matches_of f ∷ [] = ap (map matches_of) grown ∙ map-append matches_of olds (f ∷ []) in
    rw all (placed_append first rows (map matches_of olds) (matches_of f ∷ []) h (one, tt))

-- the places found in the row with a number stand in it
pub placed_of : (first : ℕ) (rows : List (List ℕ)) (found : List RowMatches) (n i : ℕ) (row : List ℕ) → ArePlaced first rows found → n ≡ first + i → slice_get rows i ≡ Some row → IfSome (found_of_row n found) (λ r. IsPlaced row r)
placed_of first rows [] n i row h is e = tt
placed_of first rows (r ∷ rs) n i row h is e = elim (cases_Bool (eqb r.row n)) [
  | inl same ↦ let at : r.row ≡ first + i = eqb-true r.row n same ∙ is in rw same (h.0 i row at e)
  | inr other ↦ rw other (placed_of first rows rs n i row h.1 is e)
]

above_put : (kept : ℕ) (rows fresh : List (List ℕ)) (found : List RowMatches) → kept ≤ length rows → ArePlaced 0 rows found → ArePlaced 0 (take kept rows ++ fresh) (found_above kept found)
above_put kept rows fresh [] le h = tt
above_put kept rows fresh (r ∷ rs) le h = elim (cases_lt r.row kept) [
  | inl lt ↦
      let f : nat_le kept r.row ≡ false = grind (arith, lt) in
      let one : 1 + position_or_len (λ x. nat_le kept x.row) rs ≡ suc (position_or_len (λ x. nat_le kept x.row) rs) = omega arith in
      rw (f, one) ((λ i row e g. h.0 i row e (sym (get_front rows fresh kept i (omega (arith, e, lt)) le) ∙ g)), above_put kept rows fresh rs le h.1)
  | inr ge ↦ let t : nat_le kept r.row ≡ true = grind (arith, ge) in rw t tt
]

fresh_put : (kept m : ℕ) (rows fresh : List (List ℕ)) (found : List RowMatches) → kept ≤ length rows → kept ≤ m → Ascend m found → ArePlaced kept fresh found → ArePlaced 0 (take kept rows ++ fresh) found
fresh_put kept m rows fresh [] le low up h = tt
fresh_put kept m rows fresh (r ∷ rs) le low up h =
    let size : length (take kept rows) ≡ kept = length-take-le kept rows le in (
      (λ i row e g.
          let past : length (take kept rows) ≤ i = omega (arith, size, e, low, up.0) in
          let at : i - length (take kept rows) ≡ i - kept = omega (arith, size) in
          h.0 (i - kept) row (omega (arith, e, low, up.0)) (ap (slice_get fresh) (sym at) ∙ sym (get_behind (take kept rows) fresh i past) ∙ g)),
      fresh_put kept (r.row + 1) rows fresh rs le (omega (arith, low, up.0)) up.1 h.1,
    )

-- what was found in the rows that stay, and what was found in those that a push forms
pub put_stands : (d : Document) (piece : List ℕ) (numbers : LineNumbers) (cols : ℕ) (p : Pending) (found fresh : List RowMatches) → IsPending d piece numbers cols p
    → AreFoundIn 0 (rows_of d) found → AreFoundIn p.kept_rows (rows_in p.tail) fresh → AreFoundIn 0 (rows_of (pushed d piece numbers cols)) (found_above p.kept_rows found ++ fresh)
put_stands d piece numbers cols p found fresh is h k =
    let placed = placed_append 0 (take p.kept_rows (rows_of d) ++ rows_in p.tail) (found_above p.kept_rows found) fresh
    (above_put p.kept_rows (rows_of d) (rows_in p.tail) found is.few h.placed)
    (fresh_put p.kept_rows p.kept_rows (rows_of d) (rows_in p.tail) fresh is.few (omega arith) k.ascend k.placed) in
    record {
      placed = subst (λ rows. ArePlaced 0 rows (found_above p.kept_rows found ++ fresh)) (sym is.rows) placed;
      ascend = put_ascend 0 p.kept_rows found fresh (omega arith) h.ascend k.ascend;
    }
