-- What was found in the rows that a push leaves, looked up by a row's number and counted.
use Rattle.std.proofs.Common.{inl, inr, ◌≡◌, ℕ, suc, zero, ◌+◌, ◌-◌, ◌<◌, ◌≤◌, ◌*◌, ◌%◌, Bool, true, false, not, nat_le, nat_lt, eqb, List, [], ◌∷◌, ◌++◌, length, map, get_or, None, Some, IfSome, if◌then◌else◌, refl, sym, ap, ap₂, ◌∙◌, subst, arith}
use Rattle.std.proofs.Math.Nat.{add-mod-mod, add-mul-mod_self_left, mod-eq_of_lt}
use Rattle.std.specs.List.{position_or_len, slice_get}
use Rattle.std.proofs.lemmas.Bool.{cases_Bool, cases_lt, ne_eqb}
use Rattle.std.proofs.lemmas.Bool.Decides.{nat_tests}
use Rattle.std.proofs.lemmas.List.{take-append-drop}
use Rattle.minus_text.specs.declared.search.jump_rows.Jump.{Jump}
use Rattle.minus_text.specs.declared.line_numbers.LineNumbers.{LineNumbers}
use Rattle.minus_text.specs.Document.{Document, rows_of, pushed}
use Rattle.minus_text.specs.Pending.{Pending, IsPending}
use Rattle.minus_text.specs.Fragments.{rows_in}
use Rattle.minus_text.specs.Found.{RowMatches, found_above, found_from, found_of_row, jump_rows, Ascend, IsPlaced, ArePlaced}
use Rattle.minus_text.specs.Matches.{counts_first, nearest, nth_match}
use Rattle.minus_text.proofs.FoundInLaws.{none_later, placed_of}
use Rattle.minus_text.proofs.PendingLaws.{row_staying, row_forming}
use Rattle.minus_text.proofs.JumpLaws.{row_of, jumps_both}

-- what was formed for some numbers and columns was formed for its own
pub own_pending : (d : Document) (piece : List ℕ) (numbers : LineNumbers) (cols : ℕ) (p : Pending) → IsPending d piece numbers cols p → IsPending d piece p.numbers p.cols p
own_pending d piece numbers cols p h =
    subst (λ (n : LineNumbers). IsPending d piece n p.cols p) (sym h.its_numbers) (subst (λ (n : ℕ). IsPending d piece numbers n p) (sym h.its_cols) h)

-- ---- a row by its number

-- a row that stays has what was found in it before
pub found_staying : (kept i m : ℕ) (found fresh : List RowMatches) → i < kept → Ascend m found → Ascend kept fresh → found_of_row i found ≡ found_of_row i (found_above kept found ++ fresh)
found_staying kept i m [] fresh lt h k = sym (none_later i kept fresh lt k)
found_staying kept i m (r ∷ rs) fresh lt h k = elim (cases_lt r.row kept) [
  | inl low ↦
      let f : nat_le kept r.row ≡ false = grind (arith, low) in
      let one : 1 + position_or_len (λ x. nat_le kept x.row) rs ≡ suc (position_or_len (λ x. nat_le kept x.row) rs) = omega arith in
      rw (f, one) (elim (cases_Bool (eqb r.row i)) [
        | inl same ↦ rw same refl
        | inr other ↦ rw other (found_staying kept i (r.row + 1) rs fresh lt h.1 k)
      ])
  | inr ge ↦
      let t : nat_le kept r.row ≡ true = grind (arith, ge) in
      rw t (none_later i r.row (r ∷ rs) (omega (arith, ge, lt)) (omega arith, h.1) ∙ sym (none_later i kept fresh lt k))
]

-- a row that is formed has what was found in it then
pub found_forming : (kept i : ℕ) (found fresh : List RowMatches) → kept ≤ i → found_of_row i fresh ≡ found_of_row i (found_above kept found ++ fresh)
found_forming kept i [] fresh le = refl
found_forming kept i (r ∷ rs) fresh le = elim (cases_lt r.row kept) [
  | inl low ↦
      let f : nat_le kept r.row ≡ false = grind (arith, low) in
      let one : 1 + position_or_len (λ x. nat_le kept x.row) rs ≡ suc (position_or_len (λ x. nat_le kept x.row) rs) = omega arith in
      let other : eqb r.row i ≡ false = ne_eqb r.row i (λ e. omega (arith, e, low, le)) in
      rw (f, one, other) (found_forming kept i rs fresh le)
  | inr ge ↦ let t : nat_le kept r.row ≡ true = grind (arith, ge) in rw t refl
]

-- the places found in a row that stays, and in one that is formed, stand in it
module _ (d : Document) (piece : List ℕ) (numbers : LineNumbers) (cols : ℕ) (p : Pending) (is : IsPending d piece numbers cols p) where
  pub placed_staying : (found : List RowMatches) (i : ℕ) (row : List ℕ) → i < p.kept_rows → ArePlaced 0 (rows_of d) found
      → slice_get (rows_of (pushed d piece numbers cols)) i ≡ Some row → IfSome (found_of_row i found) (λ r. IsPlaced row r)
  placed_staying found i row lt placed e =
      let here : i ≡ 0 + i = omega arith in
      placed_of 0 (rows_of d) found i i row placed here (sym (row_staying d piece numbers cols p i is lt) ∙ e)

  pub placed_forming : (found : List RowMatches) (i : ℕ) (row : List ℕ) → p.kept_rows ≤ i → ArePlaced p.kept_rows (rows_in p.tail) found
      → slice_get (rows_of (pushed d piece numbers cols)) i ≡ Some row → IfSome (found_of_row i found) (λ r. IsPlaced row r)
  placed_forming found i row le placed e =
      let here : i ≡ p.kept_rows + (i - p.kept_rows) = omega (arith, le) in
      placed_of p.kept_rows (rows_in p.tail) found i (i - p.kept_rows) row placed here (sym (row_forming d piece numbers cols p i is le) ∙ e)

-- ---- the first row that counts

split_jumps : (kept : ℕ) (found : List RowMatches) → jump_rows found ≡ jump_rows (found_above kept found) ++ jump_rows (found_from kept found)
split_jumps kept found =
    ap jump_rows (sym (take-append-drop (position_or_len (λ (f : RowMatches). nat_le kept f.row) found) found)) ∙ jumps_both (found_above kept found) (found_from kept found)

module _ (test : ℕ → Bool) where
  -- it stays
  in_front : (xs ys zs : List ℕ) → position_or_len test (xs ++ ys) < length xs → position_or_len test (xs ++ ys) ≡ position_or_len test (xs ++ zs)
  in_front [] ys zs lt = absurd (omega (arith, lt))
  in_front (x ∷ xs) ys zs lt = elim (cases_Bool (test x)) [
    | inl hit ↦ rw hit refl
    | inr miss ↦
        let less : 1 + position_or_len test (xs ++ ys) < suc (length xs) = rw miss at lt in
        rw miss (ap (λ n. 1 + n) (in_front xs ys zs (omega (arith, less))))
  ]

  -- it is formed
  past_front : (xs ys zs : List ℕ) → length xs ≤ position_or_len test (xs ++ ys) → length xs + position_or_len test zs ≡ position_or_len test (xs ++ zs)
  past_front [] ys zs le = omega arith
  past_front (x ∷ xs) ys zs le = elim (cases_Bool (test x)) [
    | inl hit ↦ let none : suc (length xs) ≤ 0 = rw hit at le in absurd (omega (arith, none))
    | inr miss ↦
        let less : suc (length xs) ≤ 1 + position_or_len test (xs ++ ys) = rw miss at le in
        let later = past_front xs ys zs (omega (arith, less)) in
        rw miss (omega (arith, later))
  ]

  pub counts_staying : (kept : ℕ) (found fresh : List RowMatches) → position_or_len test (jump_rows found) < length (jump_rows (found_above kept found))
      → position_or_len test (jump_rows found) ≡ position_or_len test (jump_rows (found_above kept found ++ fresh))
  counts_staying kept found fresh lt =
      let xs = jump_rows (found_above kept found) in
      let split = split_jumps kept found in
      let before : position_or_len test (xs ++ jump_rows (found_from kept found)) < length xs = omega (arith, lt, ap (position_or_len test) split) in
      ap (position_or_len test) split ∙ in_front xs (jump_rows (found_from kept found)) (jump_rows fresh) before
      ∙ ap (position_or_len test) (sym (jumps_both (found_above kept found) fresh))

  pub counts_forming : (kept : ℕ) (found fresh : List RowMatches) → length (jump_rows (found_above kept found)) ≤ position_or_len test (jump_rows found)
      → length (jump_rows (found_above kept found)) + position_or_len test (jump_rows fresh) ≡ position_or_len test (jump_rows (found_above kept found ++ fresh))
  counts_forming kept found fresh le =
      let xs = jump_rows (found_above kept found) in
      let past : length xs ≤ position_or_len test (xs ++ jump_rows (found_from kept found)) = omega (arith, le, ap (position_or_len test) (split_jumps kept found)) in
      past_front xs (jump_rows (found_from kept found)) (jump_rows fresh) past ∙ ap (position_or_len test) (sym (jumps_both (found_above kept found) fresh))

  -- a place before which none counts, and behind which each does
  pub first_counts : (js : List Jump) (n : ℕ) → n ≤ length js → ((k : ℕ) (d : Jump) → k < n → not (test (get_or js k d).row) ≡ true)
      → ((k : ℕ) (d : Jump) → n ≤ k → k < length js → not (test (get_or js k d).row) ≡ false) → n ≡ position_or_len test (map row_of js)
  first_counts [] n le h k = omega (arith, le)
  first_counts (j ∷ js) zero le h k =
      let b : not (test j.row) ≡ false = k 0 j (omega arith) (omega arith) in
      rw b refl
  first_counts (j ∷ js) (suc n) le h k =
      let b : not (test j.row) ≡ true = h 0 j (omega arith) in
      let one : suc n ≡ 1 + n = omega arith in
      rw b (one ∙ ap (λ m. 1 + m) (first_counts js n (omega (arith, le)) (λ i d l. h (suc i) d (omega (arith, l))) (λ i d l m. k (suc i) d (omega (arith, l)) (omega (arith, m)))))

-- rows that come later count too
pub counts_on : (mark jump low high : ℕ) → low ≤ high → not (counts_first mark jump high) ≡ true → not (counts_first mark jump low) ≡ true
counts_on mark jump low high le h = elim (cases_Bool (eqb jump 0)) [
  | inl z ↦ let b : not (nat_le mark high) ≡ true = rw z at h in rw z (grind (arith, nat_tests, b, le))
  | inr s ↦ let b : not (nat_lt mark high) ≡ true = rw s at h in rw s (grind (arith, nat_tests, b, le))
]

-- ---- the place that a jump goes to

-- a step that stays before the end
pub steps_on : (first jump count : ℕ) → first + jump % count < count → first + jump % count ≡ (first + jump) % count
steps_on first jump count m = sym (mod-eq_of_lt m) ∙ add-mod-mod first jump count

-- and one that goes on at the first
pub steps_over : (first step count : ℕ) → first < count → step < count → count ≤ first + step → step - (count - first) ≡ (first + step) % count
steps_over first step count lt small over =
    let past = (first + step) - count in
    let sum : first + step ≡ past + count * 1 = omega (arith, over) in
    let low : past < count = omega (arith, lt, small) in
    let here : step - (count - first) ≡ past = omega (arith, lt, over) in
    here ∙ sym (ap (λ n. n % count) sum ∙ add-mul-mod_self_left past count 1 ∙ mod-eq_of_lt low)

pub near_within : (ns : List ℕ) (mark jump : ℕ) → 0 < length ns → nearest ns mark jump < length ns
near_within ns mark jump some = elim (cases_Bool (nat_lt (position_or_len (counts_first mark jump) ns) (length ns))) [
  | inl t ↦ rw t (grind (arith, nat_tests, t))
  | inr f ↦ rw f some
]

pub nth_is : (ns : List ℕ) (mark jump : ℕ) → eqb (length ns) 0 ≡ false → eqb jump 0 ≡ false → nth_match ns mark jump ≡ Some ((nearest ns mark jump + (jump - 1)) % length ns)
nth_is ns mark jump some more =
    ap₂ (λ (none zero : Bool). if none then None else Some (if zero then nearest ns mark jump else (nearest ns mark jump + (jump - 1)) % length ns)) some more
