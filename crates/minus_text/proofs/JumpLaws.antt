-- The rows that jumps go to: those of what was found, from a row on, before it, and counted with their matches.
use Rattle.std.proofs.Common.{inl, inr, ◌≡◌, ℕ, zero, suc, ◌+◌, ◌-◌, ◌^◌, ◌<◌, ◌≤◌, ◌==◌, min, set, true, false, nat_le, List, [], ◌∷◌, ◌++◌, map, length, take, drop, get_or, refl, sym, ap, ap₂, subst, ◌∙◌, arith}
use Rattle.std.specs.List.{slice_get, position_or_len}
use Rattle.std.proofs.Math.Nat.{min-eq_left, min-eq_right}
use Rattle.std.proofs.lemmas.Bool.{cases_Bool, cases_lt, eq-eqb}
use Rattle.std.proofs.lemmas.Bool.Decides.{nat_tests}
use Rattle.std.proofs.lemmas.List.{append-nil, append_assoc, map-append, take_more, take_at, drop_at, drop-drop, get_or-drop, take-map, length-map, length-append, length-drop, length-take-le, take-append-drop, take-set, drop-set}
use Rattle.std.proofs.lemmas.List.Sums.{prefix_len-le-length, sum_by-cons}
use Rattle.minus_text.specs.declared.search.found.FoundRow.{FoundRow}
use Rattle.minus_text.specs.declared.search.jump_rows.Jump.{Jump}
use Rattle.minus_text.specs.Found.{RowMatches, found_above, found_from, jump_rows, match_total, matches_above, Ascend}
use Rattle.minus_text.specs.FoundRows.{matches_of}
use Rattle.minus_text.specs.JumpRows.{counted, jumps_behind, jump_behind, ended_at, Rise}
use Rattle.minus_text.proofs.PendingLaws.{get_behind}
use Rattle.minus_text.proofs.StoredLaws.{at_front}

-- the row of a jump
abbrev pub row_of : Jump → ℕ
row_of j = j.row

-- how many numbers stand before the first from one on
abbrev pub below : ℕ → List ℕ → ℕ
below n ns = position_or_len (nat_le n) ns

-- ---- the rows of jumps

pub rows_of_jumps : (n : ℕ) (f : List RowMatches) → map row_of (jumps_behind n f) ≡ jump_rows f
rows_of_jumps n [] = refl
rows_of_jumps n (r ∷ rs) = elim (cases_Bool (r.begins == 0)) [
  | inl none ↦ rw none (rows_of_jumps n rs)
  | inr some ↦ rw some (ap (λ l. r.row ∷ l) (rows_of_jumps (n + r.begins) rs))
]

pub jumps_both : (f g : List RowMatches) → jump_rows (f ++ g) ≡ jump_rows f ++ jump_rows g
jumps_both [] g = refl
jumps_both (r ∷ rs) g = elim (cases_Bool (r.begins == 0)) [
  | inl none ↦ rw none (jumps_both rs g)
  | inr some ↦ rw some (ap (λ l. r.row ∷ l) (jumps_both rs g))
]

pub behind_both : (n : ℕ) (f g : List RowMatches) → jumps_behind n (f ++ g) ≡ jumps_behind n f ++ jumps_behind (n + match_total f) g
behind_both n [] g = let z : n ≡ n + 0 = omega arith in ap (λ k. jumps_behind k g) z
behind_both n (r ∷ rs) g = elim (cases_Bool (r.begins == 0)) [
  | inl none ↦
      let size : n + match_total rs ≡ n + match_total (r ∷ rs) = grind (arith, none, sum_by-cons (λ (x : RowMatches). x.begins) r rs) in
      rw none (behind_both n rs g ∙ ap (λ k. jumps_behind n rs ++ jumps_behind k g) size)
  | inr some ↦
      let size : (n + r.begins) + match_total rs ≡ n + match_total (r ∷ rs) = omega (arith, sum_by-cons (λ (x : RowMatches). x.begins) r rs) in
      let here : Jump = record { row = r.row; end = counted (n + r.begins) } in
      rw some (ap (λ l. here ∷ l) (behind_both (n + r.begins) rs g ∙ ap (λ k. jumps_behind (n + r.begins) rs ++ jumps_behind k g) size))
]

-- this many matches more before each
pub moved : (m n : ℕ) (f : List RowMatches) → map (jump_behind (counted m)) (jumps_behind n f) ≡ jumps_behind (m + n) f
moved m n [] = refl
moved m n (r ∷ rs) = elim (cases_Bool (r.begins == 0)) [
  | inl none ↦ rw none (moved m n rs)
  | inr some ↦
      let end : counted (counted m + counted (n + r.begins)) ≡ counted ((m + n) + r.begins) = omega arith in
      let next : m + (n + r.begins) ≡ (m + n) + r.begins = omega arith in
      rw some (ap₂ (λ (e : ℕ) (l : List Jump). record { row = r.row; end = e } ∷ l) end (moved m (n + r.begins) rs ∙ ap (λ k. jumps_behind k rs) next))
]

-- ---- how many matches there are

pub end_of_all : (n : ℕ) (f : List RowMatches) → ended_at (counted n) (jumps_behind n f) (length (jumps_behind n f)) ≡ counted (n + match_total f)
end_of_all n [] = let z : n ≡ n + 0 = omega arith in ap counted z
end_of_all n (r ∷ rs) = elim (cases_Bool (r.begins == 0)) [
  | inl none ↦
      let size : n + match_total rs ≡ n + match_total (r ∷ rs) = grind (arith, none, sum_by-cons (λ (x : RowMatches). x.begins) r rs) in
      rw none (end_of_all n rs ∙ ap counted size)
  | inr some ↦
      let size : (n + r.begins) + match_total rs ≡ n + match_total (r ∷ rs) = omega (arith, sum_by-cons (λ (x : RowMatches). x.begins) r rs) in
      rw some (end_of_all (n + r.begins) rs ∙ ap counted size)
]

pub end_of_front : (n i : ℕ) (js : List Jump) → ended_at n js i ≡ ended_at n (take i js) (length (take i js))
end_of_front n zero [] = refl
end_of_front n zero (j ∷ js) = refl
end_of_front n (suc i) [] = refl
end_of_front n (suc i) (j ∷ js) = end_of_front j.end i js

-- the last of some jumps tells how many there are
pub end_of_last : (n i : ℕ) (js : List Jump) (d : Jump) → i < length js → ended_at n js (i + 1) ≡ (get_or js i d).end
end_of_last n i [] d lt = absurd (omega (arith, lt))
end_of_last n zero (j ∷ js) d lt = refl
end_of_last n (suc i) (j ∷ js) d lt = let one : suc i + 1 ≡ suc (i + 1) = omega arith in rw one (end_of_last j.end i js d (omega (arith, lt)))

-- one row more
total_both : (f g : List RowMatches) → match_total (f ++ g) ≡ match_total f + match_total g
total_both [] g = omega arith
total_both (r ∷ rs) g =
    let more = total_both rs g in
    omega (arith, more, sum_by-cons (λ (x : RowMatches). x.begins) r rs, sum_by-cons (λ (x : RowMatches). x.begins) r (rs ++ g))

grown : (fs : List FoundRow) (i : ℕ) (f : FoundRow) → i < length fs → f ≡ get_or fs i f → map matches_of (take (i + 1) fs) ≡ map matches_of (take i fs) ++ matches_of f ∷ []
grown fs i f lt here = ap (map matches_of) (take_more fs i f lt ∙ ap (λ g. take i fs ++ g ∷ []) (sym here)) ∙ map-append matches_of (take i fs) (f ∷ [])

module _ (fs : List FoundRow) (i : ℕ) (f : FoundRow) (lt : i < length fs) (here : f ≡ get_or fs i f) where
  abbrev so_far : List RowMatches
  so_far = map matches_of (take i fs)

  one_total : match_total (matches_of f ∷ []) ≡ f.begins
  one_total = let c = sum_by-cons (λ (x : RowMatches). x.begins) (matches_of f) [] in omega (arith, c)

  pub count_more : (end next : ℕ) → end ≡ counted (match_total so_far) → next ≡ counted (end + f.begins) → next ≡ counted (match_total (map matches_of (take (i + 1) fs)))
  count_more end next is then = let all = ap match_total (grown fs i f lt here) ∙ total_both so_far (matches_of f ∷ []) in omega (arith, is, then, all, one_total)

  pub count_same : (end : ℕ) → end ≡ counted (match_total so_far) → f.begins ≡ 0 → end ≡ counted (match_total (map matches_of (take (i + 1) fs)))
  count_same end is none = let all = ap match_total (grown fs i f lt here) ∙ total_both so_far (matches_of f ∷ []) in omega (arith, is, none, all, one_total)

  pub jump_more : (old new : List Jump) (end next : ℕ) → old ≡ jumps_behind 0 so_far → end ≡ counted (match_total so_far) → next ≡ counted (end + f.begins) → 0 < f.begins
      → new ≡ old ++ record { row = f.row; end = next } ∷ [] → new ≡ jumps_behind 0 (map matches_of (take (i + 1) fs))
  jump_more old new end next is count then some all =
      let it : (f.begins == 0) ≡ false = grind (arith, nat_tests, some) in
      let behind : next ≡ counted ((0 + match_total so_far) + f.begins) = omega (arith, count, then) in
      let one : jumps_behind (0 + match_total so_far) (matches_of f ∷ []) ≡ record { row = f.row; end = counted ((0 + match_total so_far) + f.begins) } ∷ [] = rw it refl in
      all ∙ ap₂ (λ l k. l ++ record { row = f.row; end = k } ∷ []) is behind ∙ ap (λ l. jumps_behind 0 so_far ++ l) (sym one)
      ∙ sym (behind_both 0 so_far (matches_of f ∷ [])) ∙ ap (jumps_behind 0) (sym (grown fs i f lt here))

  pub jump_same : (old : List Jump) → old ≡ jumps_behind 0 so_far → f.begins ≡ 0 → old ≡ jumps_behind 0 (map matches_of (take (i + 1) fs))
  jump_same old is none =
      let it : (f.begins == 0) ≡ true = eq-eqb f.begins 0 none in
      let one : jumps_behind (0 + match_total so_far) (matches_of f ∷ []) ≡ [] = rw it refl in
      is ∙ sym (append-nil (jumps_behind 0 so_far)) ∙ ap (λ l. jumps_behind 0 so_far ++ l) (sym one)
      ∙ sym (behind_both 0 so_far (matches_of f ∷ [])) ∙ ap (jumps_behind 0) (sym (grown fs i f lt here))

-- one jump more is moved
pub one_more_moved : (m : ℕ) (js now next : List Jump) (i : ℕ) (d : Jump) → i < length js → now ≡ map (jump_behind m) (take i js) ++ drop i js
    → next ≡ set now i (jump_behind m (get_or now i d)) → next ≡ map (jump_behind m) (take (i + 1) js) ++ drop (i + 1) js
one_more_moved m js now next i d lt is put =
    let front = map (jump_behind m) (take i js) in
    let size : length front ≡ i = length-map (take i js) (jump_behind m) ∙ length-take-le i js (omega (arith, lt)) in
    let split : drop i js ≡ get_or js i d ∷ drop (i + 1) js = dropped_one i js d lt in
    let here : take i now ≡ front = ap (take i) is ∙ take_at front (drop i js) i size in
    let rest : drop i now ≡ get_or js i d ∷ drop (i + 1) js = ap (drop i) is ∙ drop_at front (drop i js) i size ∙ split in
    let at : get_or now i d ≡ get_or js i d = (let z : i + 0 ≡ i = omega arith in ap (λ k. get_or now k d) (sym z) ∙ sym (get_or-drop i now 0 d) ∙ ap (λ l. get_or l 0 d) rest) in
    let later : drop (i + 1) now ≡ drop (i + 1) js = sym (drop-drop 1 i now) ∙ ap (drop 1) rest in
    let more : map (jump_behind m) (take (i + 1) js) ≡ front ++ jump_behind m (get_or js i d) ∷ [] = ap (map (jump_behind m)) (take_more js i d lt) ∙ map-append (jump_behind m) (take i js) (get_or js i d ∷ []) in
    let moved_one = jump_behind m (get_or now i d) in
    let long : length now ≡ length js = omega (arith, ap length is, length-append front (drop i js), length-drop i js, size, lt) in
    let within : i < length now = omega (arith, long, lt) in
    let parts : set now i moved_one ≡ take i now ++ moved_one ∷ drop (i + 1) now =
    sym (take-append-drop i (set now i moved_one)) ∙ ap₂ (λ l r. l ++ r) (take-set now i moved_one) (drop-set now i moved_one within) in
    put ∙ parts ∙ ap₂ (λ l r. l ++ r) here (ap₂ (λ x r. jump_behind m x ∷ r) at later)
    ∙ sym (append_assoc front (jump_behind m (get_or js i d) ∷ []) (drop (i + 1) js)) ∙ ap (λ l. l ++ drop (i + 1) js) (sym more)
  where
    dropped_one : (k : ℕ) (xs : List Jump) (e : Jump) → k < length xs → drop k xs ≡ get_or xs k e ∷ drop (k + 1) xs
    dropped_one k [] e l = absurd (omega (arith, l))
    dropped_one zero (x ∷ xs) e l = refl
    dropped_one (suc k) (x ∷ xs) e l = let one : suc k + 1 ≡ suc (k + 1) = omega arith in rw one (dropped_one k xs e (omega (arith, l)))

pub moved_size : (m : ℕ) (js now : List Jump) (i : ℕ) → i ≤ length js → now ≡ map (jump_behind m) (take i js) ++ drop i js → length now ≡ length js
moved_size m js now i le is =
    let front = map (jump_behind m) (take i js) in
    omega (arith, ap length is, length-append front (drop i js), length-map (take i js) (jump_behind m), length-take-le i js le, length-drop i js, le)

-- ---- before a row, and from it on

none_below : (n m : ℕ) (f : List RowMatches) → n ≤ m → Ascend m f → below n (jump_rows f) ≡ 0
none_below n m [] le h = refl
none_below n m (r ∷ rs) le h = elim (cases_Bool (r.begins == 0)) [
  | inl none ↦ rw none (none_below n (r.row + 1) rs (omega (arith, le, h.0)) h.1)
  | inr some ↦ let t : nat_le n r.row ≡ true = grind (arith, le, h.0) in rw (some, t) refl
]

pub above_jumps : (k n m : ℕ) (f : List RowMatches) → Ascend m f → take (below n (jump_rows f)) (jumps_behind k f) ≡ jumps_behind k (found_above n f)
above_jumps k n m [] h = refl
above_jumps k n m (r ∷ rs) h = elim (cases_lt r.row n) [
  | inl lt ↦
      let f : nat_le n r.row ≡ false = grind (arith, lt) in
      let one : 1 + position_or_len (λ (x : RowMatches). nat_le n x.row) rs ≡ suc (position_or_len (λ (x : RowMatches). nat_le n x.row) rs) = omega arith in
      elim (cases_Bool (r.begins == 0)) [
        | inl none ↦ rw (f, one, none) (above_jumps k n (r.row + 1) rs h.1)
        | inr some ↦
            let two : 1 + below n (jump_rows rs) ≡ suc (below n (jump_rows rs)) = omega arith in
            let here : Jump = record { row = r.row; end = counted (k + r.begins) } in
            rw (f, one, some, f, two) (ap (λ l. here ∷ l) (above_jumps (k + r.begins) n (r.row + 1) rs h.1))
      ]
  | inr ge ↦
      let t : nat_le n r.row ≡ true = grind (arith, ge) in
      let none : below n (jump_rows (r ∷ rs)) ≡ 0 = none_below n r.row (r ∷ rs) (omega (arith, ge)) (omega arith, h.1) in
      rw (none, t) refl
]

pub above_numbers : (n m : ℕ) (f : List RowMatches) → Ascend m f → take (below n (jump_rows f)) (jump_rows f) ≡ jump_rows (found_above n f)
above_numbers n m f h =
    ap (take (below n (jump_rows f))) (sym (rows_of_jumps 0 f)) ∙ take-map row_of (below n (jump_rows f)) (jumps_behind 0 f)
    ∙ ap (map row_of) (above_jumps 0 n m f h) ∙ rows_of_jumps 0 (found_above n f)

pub from_numbers : (n m : ℕ) (f : List RowMatches) → Ascend m f → jump_rows (found_from n f) ≡ drop (below n (jump_rows f)) (jump_rows f)
from_numbers n m [] h = refl
from_numbers n m (r ∷ rs) h = elim (cases_lt r.row n) [
  | inl lt ↦
      let f : nat_le n r.row ≡ false = grind (arith, lt) in
      let one : 1 + position_or_len (λ (x : RowMatches). nat_le n x.row) rs ≡ suc (position_or_len (λ (x : RowMatches). nat_le n x.row) rs) = omega arith in
      elim (cases_Bool (r.begins == 0)) [
        | inl none ↦ rw (f, one, none) (from_numbers n (r.row + 1) rs h.1)
        | inr some ↦
            let two : 1 + below n (jump_rows rs) ≡ suc (below n (jump_rows rs)) = omega arith in
            rw (f, one, some, f, two) (from_numbers n (r.row + 1) rs h.1)
      ]
  | inr ge ↦
      let t : nat_le n r.row ≡ true = grind (arith, ge) in
      let none : below n (jump_rows (r ∷ rs)) ≡ 0 = none_below n r.row (r ∷ rs) (omega (arith, ge)) (omega arith, h.1) in
      rw (none, t) refl
]

-- how many matches begin above a row
pub end_above : (n m i : ℕ) (f : List RowMatches) → Ascend m f → i ≡ below n (jump_rows f) → ended_at 0 (jumps_behind 0 f) i ≡ counted (matches_above n f)
end_above n m i f h is =
    let z : counted 0 ≡ 0 = omega arith in
    let front : take i (jumps_behind 0 f) ≡ jumps_behind 0 (found_above n f) = ap (λ k. take k (jumps_behind 0 f)) is ∙ above_jumps 0 n m f h in
    end_of_front 0 i (jumps_behind 0 f) ∙ ap (λ js. ended_at 0 js (length js)) front
    ∙ ap (λ k. ended_at k (jumps_behind 0 (found_above n f)) (length (jumps_behind 0 (found_above n f)))) (sym z)
    ∙ end_of_all 0 (found_above n f) ∙ (let none : 0 + match_total (found_above n f) ≡ matches_above n f = omega arith in ap counted none)

pub end_of_total : (i : ℕ) (f : List RowMatches) → i ≡ length (jumps_behind 0 f) → ended_at 0 (jumps_behind 0 f) i ≡ counted (match_total f)
end_of_total i f is =
    let z : counted 0 ≡ 0 = omega arith in
    ap₂ (λ k j. ended_at k (jumps_behind 0 f) j) (sym z) is ∙ end_of_all 0 f ∙ (let none : 0 + match_total f ≡ match_total f = omega arith in ap counted none)

pub below_within : (n : ℕ) (ns : List ℕ) → below n ns ≤ length ns
below_within n ns = prefix_len-le-length _ ns

-- ---- jumps rise

rise_later : (m n : ℕ) (ns : List ℕ) → m ≤ n → Rise n ns → Rise m ns
rise_later m n [] le h = tt
rise_later m n (k ∷ ks) le h = (omega (arith, le, h.0), h.1)

pub jumps_rise : (m : ℕ) (f : List RowMatches) → Ascend m f → Rise m (jump_rows f)
jumps_rise m [] h = tt
jumps_rise m (r ∷ rs) h =
    let later = jumps_rise (r.row + 1) rs h.1 in
    elim (cases_Bool (r.begins == 0)) [
      | inl none ↦ rw none (rise_later m (r.row + 1) (jump_rows rs) (omega (arith, h.0)) later)
      | inr some ↦ rw some (h.0, later)
    ]

rise_from : (m : ℕ) (js : List Jump) (k : ℕ) (d : Jump) → Rise m (map row_of js) → k < length js → m ≤ (get_or js k d).row
rise_from m [] k d h lt = absurd (omega (arith, lt))
rise_from m (j ∷ js) zero d h lt = h.0
rise_from m (j ∷ js) (suc k) d h lt = let more = rise_from (j.row + 1) js k d h.1 (omega (arith, lt)) in omega (arith, more, h.0)

rise_ordered : (m : ℕ) (js : List Jump) → Rise m (map row_of js) → (i j : ℕ) (d : Jump) → i ≤ j → j < length js → (get_or js i d).row ≤ (get_or js j d).row
rise_ordered m [] h i j d le lt = absurd (omega (arith, lt))
rise_ordered m (x ∷ xs) h zero zero d le lt = omega arith
rise_ordered m (x ∷ xs) h zero (suc j) d le lt = let more = rise_from (x.row + 1) xs j d h.1 (omega (arith, lt)) in omega (arith, more)
rise_ordered m (x ∷ xs) h (suc i) zero d le lt = absurd (omega (arith, le))
rise_ordered m (x ∷ xs) h (suc i) (suc j) d le lt = rise_ordered (x.row + 1) xs h.1 i j d (omega (arith, le)) (omega (arith, lt))

pub jumps_ordered : (js : List Jump) → Rise 0 (map row_of js) → (i j : ℕ) (d : Jump) → i ≤ j → j < length js → (get_or js i d).row ≤ (get_or js j d).row
jumps_ordered js h i j d le lt = rise_ordered 0 js h i j d le lt

-- ---- jumps that are those of what was found

pub rows_are : (js : List Jump) (f : List RowMatches) → js ≡ jumps_behind 0 f → map row_of js ≡ jump_rows f
rows_are js f is = ap (map row_of) is ∙ rows_of_jumps 0 f

pub count_is : (js : List Jump) (f : List RowMatches) → js ≡ jumps_behind 0 f → length js ≡ length (jump_rows f)
count_is js f is = sym (length-map js row_of) ∙ ap length (rows_are js f is)

pub rise_of : (js : List Jump) (f : List RowMatches) → js ≡ jumps_behind 0 f → Ascend 0 f → Rise 0 (map row_of js)
rise_of js f is h = subst (Rise 0) (sym (rows_are js f is)) (jumps_rise 0 f h)

pub above_count : (n : ℕ) (f : List RowMatches) → Ascend 0 f → below n (jump_rows f) ≡ length (jump_rows (found_above n f))
above_count n f h = sym (length-take-le (below n (jump_rows f)) (jump_rows f) (below_within n (jump_rows f))) ∙ ap length (above_numbers n 0 f h)

-- ---- what was found above a row, where others stand behind those above another row

above_stop : (n m : ℕ) (f : List RowMatches) → n ≤ m → Ascend m f → found_above n f ≡ []
above_stop n m [] le h = refl
above_stop n m (r ∷ rs) le h = let t : nat_le n r.row ≡ true = grind (arith, le, h.0) in rw t refl

above_staying : (row kept m : ℕ) (f g : List RowMatches) → row ≤ kept → Ascend m f → Ascend kept g → found_above row (found_above kept f ++ g) ≡ found_above row f
above_staying row kept m [] g le h k = above_stop row kept g le k
above_staying row kept m (r ∷ rs) g le h k = elim (cases_lt r.row kept) [
  | inl low ↦
      let f : nat_le kept r.row ≡ false = grind (arith, low) in
      let one : 1 + position_or_len (λ (x : RowMatches). nat_le kept x.row) rs ≡ suc (position_or_len (λ (x : RowMatches). nat_le kept x.row) rs) = omega arith in
      elim (cases_lt r.row row) [
        | inl over ↦
            let d : nat_le row r.row ≡ false = grind (arith, over) in
            let rest = found_above kept rs ++ g in
            let two : 1 + position_or_len (λ (x : RowMatches). nat_le row x.row) rest ≡ suc (position_or_len (λ (x : RowMatches). nat_le row x.row) rest) = omega arith in
            let three : 1 + position_or_len (λ (x : RowMatches). nat_le row x.row) rs ≡ suc (position_or_len (λ (x : RowMatches). nat_le row x.row) rs) = omega arith in
            rw (f, one, d, two, three) (ap (λ l. r ∷ l) (above_staying row kept (r.row + 1) rs g le h.1 k))
        | inr at ↦ let t : nat_le row r.row ≡ true = grind (arith, at) in rw (f, one, t) refl
      ]
  | inr ge ↦
      let t : nat_le kept r.row ≡ true = grind (arith, ge) in
      let u : nat_le row r.row ≡ true = grind (arith, ge, le) in
      rw (t, u) (above_stop row kept g le k)
]

above_forming : (row kept m : ℕ) (f g : List RowMatches) → kept ≤ row → Ascend m f → found_above row (found_above kept f ++ g) ≡ found_above kept f ++ found_above row g
above_forming row kept m [] g le h = refl
above_forming row kept m (r ∷ rs) g le h = elim (cases_lt r.row kept) [
  | inl low ↦
      let f : nat_le kept r.row ≡ false = grind (arith, low) in
      let one : 1 + position_or_len (λ (x : RowMatches). nat_le kept x.row) rs ≡ suc (position_or_len (λ (x : RowMatches). nat_le kept x.row) rs) = omega arith in
      let d : nat_le row r.row ≡ false = grind (arith, low, le) in
      let rest = found_above kept rs ++ g in
      let two : 1 + position_or_len (λ (x : RowMatches). nat_le row x.row) rest ≡ suc (position_or_len (λ (x : RowMatches). nat_le row x.row) rest) = omega arith in
      rw (f, one, d, two) (ap (λ l. r ∷ l) (above_forming row kept (r.row + 1) rs g le h.1))
  | inr ge ↦ let t : nat_le kept r.row ≡ true = grind (arith, ge) in rw t refl
]

pub above_sum : (row kept : ℕ) (f g : List RowMatches) → Ascend 0 f → Ascend kept g → matches_above row (found_above kept f ++ g) ≡ matches_above (min row kept) f + matches_above row g
above_sum row kept f g h k = elim (cases_lt row kept) [
  | inl low ↦
      let m : min row kept ≡ row = min-eq_left (omega (arith, low)) in
      let none : match_total (found_above row g) ≡ 0 = ap match_total (above_stop row kept g (omega (arith, low)) k) in
      let here = ap match_total (above_staying row kept 0 f g (omega (arith, low)) h k) in
      rw m (omega (arith, here, none))
  | inr ge ↦
      let m : min row kept ≡ kept = min-eq_right ge in
      let here = ap match_total (above_forming row kept 0 f g ge h) in
      let sum = total_both (found_above kept f) (found_above row g) in
      rw m (omega (arith, here, sum))
]

pub counted_sum : (m n : ℕ) → min (counted m + counted n) (2 ^ 64 - 1) ≡ counted (m + n)
counted_sum m n = omega arith

-- ---- a jump by its place, where others stand behind those above a row

pub place_staying : (kept i : ℕ) (f g : List RowMatches) → Ascend 0 f → i < length (jump_rows (found_above kept f)) → slice_get (jump_rows f) i ≡ slice_get (jump_rows (found_above kept f ++ g)) i
place_staying kept i f g h lt =
    let ns = jump_rows f in
    let above = jump_rows (found_above kept f) in
    let count : below kept ns ≡ length above = above_count kept f h in
    let split : ns ≡ above ++ drop (below kept ns) ns = sym (take-append-drop (below kept ns) ns) ∙ ap (λ l. l ++ drop (below kept ns) ns) (above_numbers kept 0 f h) in
    ap (λ l. slice_get l i) split ∙ at_front above (drop (below kept ns) ns) i lt ∙ sym (at_front above (jump_rows g) i lt) ∙ ap (λ l. slice_get l i) (sym (jumps_both (found_above kept f) g))

pub place_forming : (kept i : ℕ) (f g : List RowMatches) → length (jump_rows (found_above kept f)) ≤ i → slice_get (jump_rows g) (i - length (jump_rows (found_above kept f))) ≡ slice_get (jump_rows (found_above kept f ++ g)) i
place_forming kept i f g le = sym (get_behind (jump_rows (found_above kept f)) (jump_rows g) i le) ∙ ap (λ l. slice_get l i) (sym (jumps_both (found_above kept f) g))
