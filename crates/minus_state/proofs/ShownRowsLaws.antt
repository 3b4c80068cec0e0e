-- Shown rows one after another: there are as many as rows, and those before the first that a push changes stay.
use Rattle.std.proofs.Common.{◌≡◌, ℕ, zero, suc, ◌+◌, ◌-◌, ◌<◌, ◌≤◌, Bool, true, false, List, [], ◌∷◌, ◌++◌, length, take, drop, min, Option, Some, None, option_map, refl, sym, ap, ◌∙◌, arith, inl, inr}
use Rattle.std.specs.List.{slice_get}
use Rattle.std.specs.Prelude.{if◌then◌else◌}
use Rattle.std.proofs.lemmas.Bool.{cases_Bool}
use Rattle.std.proofs.lemmas.List.{length-take}
use Rattle.regex.specs.Patterns.{Re}
use Rattle.minus_text.specs.Crop.{cropped}
use Rattle.minus_text.specs.Document.{Document, rows_of, line_count, unfinished_rows, pushed, keeps_rows, margin_in, plan_of, first_formed}
use Rattle.minus_text.specs.Searched.{stored_rows_for}
use Rattle.minus_text.specs.Found.{RowMatches, found_of_row}
use Rattle.minus_text.specs.Finds.{finds}
use Rattle.minus_text.specs.ShownMatches.{marked_within}
use Rattle.minus_text.proofs.StoredKeptLaws.{prefix_alike, columns_alike, stored_kept, found_stays, rows_stay, margin_kept}
use Rattle.minus_text.proofs.SearchedLaws.{length-stored_for}
use Rattle.minus_state.specs.declared.selection.Selection.{Selection}
use Rattle.minus_state.specs.Selection.{marked_range}
use Rattle.minus_state.specs.View.{prefix_in, cut_in}
use Rattle.minus_state.specs.ShownRow.{columns_for_text, line_prefix, cropped_line, cropped_row, laid_row, ended_in, unmarked_row, selected_range, with_marks, shown_row, before_rows, rows_from, shown_rows}

-- ---- there is a shown row where there is a row

some_at : {X : Type 0} (xs : List X) (i : ℕ) → i < length xs → (x : X) × (slice_get xs i ≡ Some x)
some_at [] i l = absurd (omega arith)
some_at (x ∷ xs) zero l = (x, refl)
some_at (x ∷ xs) (suc i) l = some_at xs i (omega arith)

pub laid_on : (term : Option Re) (d : Document) (left i : ℕ) → d.layout.wrapping ≡ true → laid_row term d left i ≡ slice_get (stored_rows_for term d) i
laid_on term d left i on = ap (λ (b : Bool). if b then slice_get (stored_rows_for term d) i else cropped_row term d left i) on

laid_off : (term : Option Re) (d : Document) (left i : ℕ) → d.layout.wrapping ≡ false → laid_row term d left i ≡ cropped_row term d left i
laid_off term d left i off = ap (λ (b : Bool). if b then slice_get (stored_rows_for term d) i else cropped_row term d left i) off

laid_there : (term : Option Re) (d : Document) (left i : ℕ) → i < length (rows_of d) → (row : List ℕ) × (laid_row term d left i ≡ Some row)
laid_there term d left i l = elim (cases_Bool d.layout.wrapping) [
  | inl on ↦
      let count = length-stored_for term d in
      let row = some_at (stored_rows_for term d) i (omega (arith, l, count)) in
      (row.0, laid_on term d left i on ∙ row.1)
  | inr off ↦
      let row = some_at (rows_of d) i l in
      let shown = marked_within left (columns_for_text d) (found_of_row i (finds term d)) in
      (cropped_line d left i (shown row.0), laid_off term d left i off ∙ ap (λ (o : Option (List ℕ)). option_map (cropped_line d left i) (option_map shown o)) row.1)
]

shown_there : (term : Option Re) (d : Document) (left : ℕ) (ends : Option (Selection × Selection)) (i : ℕ) → i < length (rows_of d) → (row : List ℕ) × (shown_row term d left ends i ≡ Some row)
shown_there term d left ends i l =
    let row = laid_there term d left i l in
    (with_marks (selected_range d left ends i) (ended_in d row.0), ap (λ (o : Option (List ℕ)). option_map (with_marks (selected_range d left ends i)) (option_map (ended_in d) o)) row.1)

-- ---- as many as rows, each at its number

length-rows_from : (term : Option Re) (d : Document) (left : ℕ) (ends : Option (Selection × Selection)) (i n : ℕ) → i + n ≤ length (rows_of d) → length (rows_from term d left ends i n) ≡ n
length-rows_from term d left ends i zero l = refl
length-rows_from term d left ends i (suc n) l =
    let row = shown_there term d left ends i (omega (arith, l)) in
    rw row.1 (ap suc (length-rows_from term d left ends (i + 1) n (omega (arith, l))))

get-rows_from : (term : Option Re) (d : Document) (left : ℕ) (ends : Option (Selection × Selection)) (i n j : ℕ) → j < n → i + n ≤ length (rows_of d) → slice_get (rows_from term d left ends i n) j ≡ shown_row term d left ends (i + j)
get-rows_from term d left ends i zero j l w = absurd (omega (arith, l))
get-rows_from term d left ends i (suc n) zero l w =
    let row = shown_there term d left ends i (omega (arith, w)) in
    let here : i + 0 ≡ i = omega arith in
    ap (λ (o : Option (List ℕ)). slice_get (before_rows o (rows_from term d left ends (i + 1) n)) 0) row.1 ∙ sym (ap (shown_row term d left ends) here ∙ row.1)
get-rows_from term d left ends i (suc n) (suc j) l w =
    let row = shown_there term d left ends i (omega (arith, w)) in
    let here : (i + 1) + j ≡ i + suc j = omega arith in
    ap (λ (o : Option (List ℕ)). slice_get (before_rows o (rows_from term d left ends (i + 1) n)) (suc j)) row.1
    ∙ get-rows_from term d left ends (i + 1) n j (omega (arith, l)) (omega (arith, w)) ∙ ap (shown_row term d left ends) here

-- all shown rows
pub length-shown_rows : (term : Option Re) (d : Document) (left : ℕ) (ends : Option (Selection × Selection)) → length (shown_rows term d left ends 0 (length (rows_of d))) ≡ length (rows_of d)
unfolding shown_rows
length-shown_rows term d left ends =
    let all : min (length (rows_of d)) (length (rows_of d)) - 0 ≡ length (rows_of d) = omega arith in
    ap (λ (n : ℕ). length (rows_from term d left ends 0 n)) all ∙ length-rows_from term d left ends 0 (length (rows_of d)) (omega arith)

pub get-shown_rows : (term : Option Re) (d : Document) (left : ℕ) (ends : Option (Selection × Selection)) (i : ℕ) → i < length (rows_of d) → slice_get (shown_rows term d left ends 0 (length (rows_of d))) i ≡ shown_row term d left ends i
unfolding shown_rows
get-shown_rows term d left ends i l =
    let all : min (length (rows_of d)) (length (rows_of d)) - 0 ≡ length (rows_of d) = omega arith in
    let here : 0 + i ≡ i = omega arith in
    ap (λ (n : ℕ). slice_get (rows_from term d left ends 0 n) i) all ∙ get-rows_from term d left ends 0 (length (rows_of d)) i l (omega arith) ∙ ap (shown_row term d left ends) here

-- ---- a part of them

front_from : (term : Option Re) (d : Document) (left : ℕ) (ends : Option (Selection × Selection)) (i n k : ℕ) → i + n ≤ length (rows_of d) → take k (rows_from term d left ends i n) ≡ rows_from term d left ends i (min k n)
front_from term d left ends i n zero l = let none : 0 ≡ min 0 n = omega arith in ap (rows_from term d left ends i) none
front_from term d left ends i zero (suc k) l = let none : 0 ≡ min (suc k) 0 = omega arith in ap (rows_from term d left ends i) none
front_from term d left ends i (suc n) (suc k) l =
    let row = shown_there term d left ends i (omega (arith, l)) in
    let more : suc (min k n) ≡ min (suc k) (suc n) = omega arith in
    ap (λ (o : Option (List ℕ)). take (suc k) (before_rows o (rows_from term d left ends (i + 1) n))) row.1
    ∙ ap (λ (rows : List (List ℕ)). row.0 ∷ rows) (front_from term d left ends (i + 1) n k (omega (arith, l)))
    ∙ sym (ap (λ (o : Option (List ℕ)). before_rows o (rows_from term d left ends (i + 1) (min k n))) row.1)
    ∙ ap (rows_from term d left ends i) more

rest_from : (term : Option Re) (d : Document) (left : ℕ) (ends : Option (Selection × Selection)) (i m n : ℕ) → i + (m + n) ≤ length (rows_of d) → drop m (rows_from term d left ends i (m + n)) ≡ rows_from term d left ends (i + m) n
rest_from term d left ends i zero n l =
    let all : 0 + n ≡ n = omega arith in
    let here : i ≡ i + 0 = omega arith in
    ap (rows_from term d left ends i) all ∙ ap (λ (j : ℕ). rows_from term d left ends j n) here
rest_from term d left ends i (suc m) n l =
    let row = shown_there term d left ends i (omega (arith, l)) in
    let all : suc m + n ≡ suc (m + n) = omega arith in
    let here : (i + 1) + m ≡ i + suc m = omega arith in
    ap (λ (j : ℕ). drop (suc m) (rows_from term d left ends i j)) all
    ∙ ap (λ (o : Option (List ℕ)). drop (suc m) (before_rows o (rows_from term d left ends (i + 1) (m + n)))) row.1
    ∙ rest_from term d left ends (i + 1) m n (omega (arith, l))
    ∙ ap (λ (j : ℕ). rows_from term d left ends j n) here

-- this many of all shown rows, from one on
pub shown_rows_from : (term : Option Re) (d : Document) (left : ℕ) (ends : Option (Selection × Selection)) (m k : ℕ) → m ≤ length (rows_of d) → shown_rows term d left ends m (m + k) ≡ take k (drop m (shown_rows term d left ends 0 (length (rows_of d))))
unfolding shown_rows
shown_rows_from term d left ends m k l =
    let n : ℕ = length (rows_of d) in
    let all : min n n - 0 ≡ m + (n - m) = omega (arith, l) in
    let here : 0 + m ≡ m = omega arith in
    let few : min k (n - m) ≡ min (m + k) n - m = omega arith in
    sym (
    ap (λ (j : ℕ). take k (drop m (rows_from term d left ends 0 j))) all
    ∙ ap (take k) (rest_from term d left ends 0 m (n - m) (omega (arith, l)) ∙ ap (λ (j : ℕ). rows_from term d left ends j (n - m)) here)
    ∙ front_from term d left ends m (n - m) k (omega (arith, l))
    ∙ ap (rows_from term d left ends m) few
    )

-- ---- rows that are shown alike

same_front : (term : Option Re) (d e : Document) (left : ℕ) (ends : Option (Selection × Selection)) (i n m k : ℕ) → k ≤ n → k ≤ m → i + n ≤ length (rows_of d) → ((j : ℕ) → i ≤ j → j < i + k → shown_row term d left ends j ≡ shown_row term e left ends j)
    → take k (rows_from term d left ends i n) ≡ take k (rows_from term e left ends i m)
same_front term d e left ends i n m zero a b l h = refl
same_front term d e left ends i zero m (suc k) a b l h = absurd (omega (arith, a))
same_front term d e left ends i (suc n) zero (suc k) a b l h = absurd (omega (arith, b))
same_front term d e left ends i (suc n) (suc m) (suc k) a b l h =
    let row = shown_there term d left ends i (omega (arith, l)) in
    let other : shown_row term e left ends i ≡ Some row.0 = sym (h i (omega arith) (omega arith)) ∙ row.1 in
    ap (λ (o : Option (List ℕ)). take (suc k) (before_rows o (rows_from term d left ends (i + 1) n))) row.1
    ∙ ap (λ rs. row.0 ∷ rs) (same_front term d e left ends (i + 1) n m k (omega (arith, a)) (omega (arith, b)) (omega (arith, l)) (λ j p q. h j (omega (arith, p)) (omega (arith, q))))
    ∙ sym (ap (λ (o : Option (List ℕ)). take (suc k) (before_rows o (rows_from term e left ends (i + 1) m))) other)

same_all : (term : Option Re) (d e : Document) (left : ℕ) (ends : Option (Selection × Selection)) (k : ℕ) → k ≤ length (rows_of d) → k ≤ length (rows_of e) → ((j : ℕ) → j < k → shown_row term d left ends j ≡ shown_row term e left ends j)
    → take k (shown_rows term d left ends 0 (length (rows_of d))) ≡ take k (shown_rows term e left ends 0 (length (rows_of e)))
unfolding shown_rows
same_all term d e left ends k a b h =
    let all : min (length (rows_of d)) (length (rows_of d)) - 0 ≡ length (rows_of d) = omega arith in
    let all_e : min (length (rows_of e)) (length (rows_of e)) - 0 ≡ length (rows_of e) = omega arith in
    ap (λ (n : ℕ). take k (rows_from term d left ends 0 n)) all
    ∙ same_front term d e left ends 0 (length (rows_of d)) (length (rows_of e)) k a b (omega arith) (λ j p q. h j (omega (arith, q)))
    ∙ sym (ap (λ (n : ℕ). take k (rows_from term e left ends 0 n)) all_e)

-- ---- a push that keeps rows

below : {X : Type 0} (xs ys : List X) (n i : ℕ) → take n xs ≡ take n ys → i < n → slice_get xs i ≡ slice_get ys i
below xs ys n i e l = sym (front_of xs n i l) ∙ ap (λ zs. slice_get zs i) e ∙ front_of ys n i l
  where
    front_of : {Y : Type 0} (zs : List Y) (m j : ℕ) → j < m → slice_get (take m zs) j ≡ slice_get zs j
    front_of zs zero j w = absurd (omega (arith, w))
    front_of [] (suc m) j w = refl
    front_of (z ∷ zs) (suc m) zero w = refl
    front_of (z ∷ zs) (suc m) (suc j) w = front_of zs m j (omega (arith, w))

found_alike : (term : Option Re) (d : Document) (piece : List ℕ) (i : ℕ) → keeps_rows d piece d.layout.numbers d.layout.cols ≡ true → i < length (rows_of d) - unfinished_rows d
    → found_of_row i (finds term d) ≡ found_of_row i (finds term (pushed d piece d.layout.numbers d.layout.cols))
found_alike term d piece i keeps l =
    let first : first_formed d (plan_of d piece d.layout.numbers d.layout.cols) ≡ length (rows_of d) - unfinished_rows d = rw keeps refl in
    found_stays term d piece d.layout.numbers d.layout.cols i (omega (arith, l, first))

cropped_alike : (term : Option Re) (d : Document) (piece : List ℕ) (left i : ℕ) (o : Option (List ℕ)) → keeps_rows d piece d.layout.numbers d.layout.cols ≡ true → i < length (rows_of d) - unfinished_rows d → (let e : Document = pushed d piece d.layout.numbers d.layout.cols in
    option_map (cropped_line d left i) (option_map (marked_within left (columns_for_text d) (found_of_row i (finds term d))) o)
    ≡ option_map (cropped_line e left i) (option_map (marked_within left (columns_for_text e) (found_of_row i (finds term e))) o))
cropped_alike term d piece left i None keeps l = refl
cropped_alike term d piece left i (Some text) keeps l =
    let e : Document = pushed d piece d.layout.numbers d.layout.cols in
    let margins : margin_in e ≡ margin_in d = margin_kept d piece keeps in
    let before : line_prefix d i ≡ line_prefix e i = prefix_alike d.layout.numbers (line_count d) (line_count e) (i + 1) true (sym margins) in
    let columns : prefix_in d ≡ prefix_in e = columns_alike d.layout.numbers (line_count d) (line_count e) (sym margins) in
    let shown : ℕ → Option RowMatches → List ℕ = λ n found. cropped left (d.layout.cols - n) (marked_within left (d.layout.cols - n) found text) in
    ap (λ (p : List ℕ). Some (p ++ shown (prefix_in d) (found_of_row i (finds term d)))) before
    ∙ ap (λ (n : ℕ). Some (line_prefix e i ++ shown n (found_of_row i (finds term d)))) columns
    ∙ ap (λ (r : Option RowMatches). Some (line_prefix e i ++ shown (prefix_in e) r)) (found_alike term d piece i keeps l)

range_alike : (d : Document) (piece : List ℕ) (left : ℕ) (ends : Option (Selection × Selection)) (i : ℕ) → keeps_rows d piece d.layout.numbers d.layout.cols ≡ true → (let e : Document = pushed d piece d.layout.numbers d.layout.cols in selected_range d left ends i ≡ selected_range e left ends i)
range_alike d piece left None i keeps = refl
range_alike d piece left (Some ends) i keeps =
    let e : Document = pushed d piece d.layout.numbers d.layout.cols in
    let columns : prefix_in d ≡ prefix_in e = columns_alike d.layout.numbers (line_count d) (line_count e) (sym (margin_kept d piece keeps)) in
    ap (λ (n : ℕ). marked_range ends.0 ends.1 i n (cut_in d left)) columns

laid_alike : (term : Option Re) (d : Document) (piece : List ℕ) (left i : ℕ) → keeps_rows d piece d.layout.numbers d.layout.cols ≡ true → i < length (rows_of d) - unfinished_rows d
    → (let e : Document = pushed d piece d.layout.numbers d.layout.cols in laid_row term d left i ≡ laid_row term e left i)
laid_alike term d piece left i keeps l =
    let e : Document = pushed d piece d.layout.numbers d.layout.cols in
    let n : ℕ = length (rows_of d) - unfinished_rows d in
    let stored : slice_get (stored_rows_for term d) i ≡ slice_get (stored_rows_for term e) i = below (stored_rows_for term d) (stored_rows_for term e) n i (stored_kept term d piece keeps) l in
    let own : slice_get (rows_of d) i ≡ slice_get (rows_of e) i = below (rows_of d) (rows_of e) n i (rows_stay d piece keeps) l in
    elim (cases_Bool d.layout.wrapping) [
      | inl on ↦ laid_on term d left i on ∙ stored ∙ sym (laid_on term e left i on)
      | inr off ↦
          laid_off term d left i off ∙ ap (λ (o : Option (List ℕ)). option_map (cropped_line d left i) (option_map (marked_within left (columns_for_text d) (found_of_row i (finds term d))) o)) own
          ∙ cropped_alike term d piece left i (slice_get (rows_of e) i) keeps l ∙ sym (laid_off term e left i off)
    ]

-- the shown rows before the first that it changes stay
pub shown_kept : (term : Option Re) (d : Document) (piece : List ℕ) (left : ℕ) (ends : Option (Selection × Selection)) → keeps_rows d piece d.layout.numbers d.layout.cols ≡ true
    → (let e : Document = pushed d piece d.layout.numbers d.layout.cols in let n : ℕ = length (rows_of d) - unfinished_rows d in
    take n (shown_rows term d left ends 0 (length (rows_of d))) ≡ take n (shown_rows term e left ends 0 (length (rows_of e))))
shown_kept term d piece left ends keeps =
    let e : Document = pushed d piece d.layout.numbers d.layout.cols in
    let n : ℕ = length (rows_of d) - unfinished_rows d in
    let front = ap length (rows_stay d piece keeps) in
    let here = length-take n (rows_of d) in
    let there = length-take n (rows_of e) in
    same_all term d e left ends n (omega arith) (omega (arith, front, here, there)) (λ j l.
    ap (λ (r : Option (ℕ × Option ℕ)). option_map (with_marks r) (unmarked_row term d left j)) (range_alike d piece left ends j keeps)
    ∙ ap (option_map (with_marks (selected_range e left ends j))) (ap (option_map (ended_in d)) (laid_alike term d piece left j keeps l)))
