-- The numbers of the rows that jumps go to: sets of them, and those between two rows.
use Rattle.std.proofs.Common.{inl, inr, ◌≡◌, ℕ, zero, suc, ◌+◌, ◌-◌, ◌<◌, ◌≤◌, true, false, nat_le, List, [], ◌∷◌, ◌++◌, map, length, take, drop, get_or, refl, sym, ap, ap₂, ◌∙◌, arith}
use Rattle.std.specs.Cmp.{nat_cmp_is}
use Rattle.std.specs.Ordering.{nat_cmp}
use Rattle.std.specs.declared.cmp.Ordering.TheVariants.{Greater}
use Rattle.std.specs.BTreeSet.{insert_key}
use Rattle.std.proofs.lemmas.Bool.{cases_lt}
use Rattle.std.proofs.lemmas.List.{append-nil, append_assoc, drop-take, map-append, take_more}
use Rattle.minus_text.specs.declared.search.jump_rows.Jump.{Jump}
use Rattle.minus_text.specs.Found.{RowMatches, found_above, found_from, jump_rows, Ascend}
use Rattle.minus_text.specs.JumpRows.{Rise, numbers_with}
use Rattle.minus_text.proofs.FoundInLaws.{weaker, put_ascend}
use Rattle.minus_text.proofs.JumpLaws.{row_of, below, jumps_both, above_numbers, from_numbers, jumps_rise}

-- ---- sets of their numbers

abbrev Under : ℕ → List ℕ → Type 0
Under m [] = Unit {0}
Under m (k ∷ ks) = (k < m) × Under m ks

under_more : (m n : ℕ) (ks : List ℕ) → m ≤ n → Under m ks → Under n ks
under_more m n [] le h = tt
under_more m n (k ∷ ks) le h = (omega (arith, le, h.0), under_more m n ks le h.1)

under_last : (m n : ℕ) (ks : List ℕ) → m < n → Under m ks → Under n (ks ++ m ∷ [])
under_last m n [] lt h = (lt, tt)
under_last m n (k ∷ ks) lt h = (omega (arith, lt, h.0), under_last m n ks lt h.1)

past : (x k : ℕ) → x < k → nat_cmp k x ≡ Greater
past x k h = sym (nat_cmp_is k x Greater h)

goes_last : (ks : List ℕ) (n : ℕ) → Under n ks → insert_key nat_cmp ks n ≡ ks ++ n ∷ []
goes_last [] n h = refl
goes_last (k ∷ ks) n h = rw (past k n h.0) (ap (λ l. k ∷ l) (goes_last ks n h.1))

add_rising : (m : ℕ) (ns ks : List ℕ) → Under m ks → Rise m ns → numbers_with ns ks ≡ ks ++ ns
add_rising m [] ks b h = sym (append-nil ks)
add_rising m (n ∷ ns) ks b h =
    let low = under_more m n ks h.0 b in
    let up : n < n + 1 = omega arith in
    ap (numbers_with ns) (goes_last ks n low)
    ∙ add_rising (n + 1) ns (ks ++ n ∷ []) (under_last n (n + 1) ks up low) h.1
    ∙ append_assoc ks (n ∷ []) ns

pub rising_numbers : (m : ℕ) (ns : List ℕ) → Rise m ns → numbers_with ns [] ≡ ns
rising_numbers m ns h = add_rising m ns [] tt h

pub with_both : (ms ns ks : List ℕ) → numbers_with (ms ++ ns) ks ≡ numbers_with ns (numbers_with ms ks)
with_both [] ns ks = refl
with_both (m ∷ ms) ns ks = with_both ms ns (insert_key nat_cmp ks m)

-- numbers of more jumps
pub number_more : (js : List Jump) (i : ℕ) (d : Jump) (start old new : List ℕ) → i < length js → old ≡ numbers_with (map row_of (take i js)) start → new ≡ insert_key nat_cmp old (get_or js i d).row
    → new ≡ numbers_with (map row_of (take (i + 1) js)) start
number_more js i d start old new more so h =
    let j = get_or js i d in
    h ∙ ap (λ ks. insert_key nat_cmp ks j.row) so ∙ sym (with_both (map row_of (take i js)) (row_of j ∷ []) start)
    ∙ ap (λ l. numbers_with l start) (sym (ap (map row_of) (take_more js i d more) ∙ map-append row_of (take i js) (j ∷ [])))

pub below_ordered : (m n : ℕ) (ns : List ℕ) → m ≤ n → below m ns ≤ below n ns
below_ordered m n [] le = omega arith
below_ordered m n (k ∷ ks) le = elim (cases_lt k m) [
  | inl lt ↦
      let f : nat_le m k ≡ false = grind (arith, lt) in
      let g : nat_le n k ≡ false = grind (arith, lt, le) in
      let more = below_ordered m n ks le in
      rw (f, g) (omega (arith, more))
  | inr ge ↦ let t : nat_le m k ≡ true = grind (arith, ge) in rw t (omega arith)
]

all_from : (m n : ℕ) (ns : List ℕ) → m ≤ n → Rise n ns → drop (below m ns) ns ≡ ns
all_from m n [] le h = refl
all_from m n (k ∷ ks) le h = let t : nat_le m k ≡ true = grind (arith, le, h.0) in rw t refl

-- from a row on stand those between it and another row, and those behind that
between : (m n : ℕ) (old fresh : List ℕ) → m ≤ n → Rise n fresh → drop (below m (take (below n old) old ++ fresh)) (take (below n old) old ++ fresh) ≡ drop (below m old) (take (below n old) old) ++ fresh
between m n [] fresh le h = all_from m n fresh le h
between m n (k ∷ ks) fresh le h = elim (cases_lt k n) [
  | inr ge ↦
      let t : nat_le n k ≡ true = grind (arith, ge) in
      let s : nat_le m k ≡ true = grind (arith, ge, le) in
      rw (t, s) (all_from m n fresh le h)
  | inl lt ↦
      let f : nat_le n k ≡ false = grind (arith, lt) in
      let one : 1 + below n ks ≡ suc (below n ks) = omega arith in
      elim (cases_lt k m) [
        | inl over ↦
            let g : nat_le m k ≡ false = grind (arith, over) in
            let two : 1 + below m ks ≡ suc (below m ks) = omega arith in
            let three : 1 + below m (take (below n ks) ks ++ fresh) ≡ suc (below m (take (below n ks) ks ++ fresh)) = omega arith in
            rw (f, one, g, two, three) (between m n ks fresh le h)
        | inr here ↦
            let t : nat_le m k ≡ true = grind (arith, here) in
            rw (f, one, t) refl
      ]
]

drop_ascend : (n m : ℕ) (fs : List RowMatches) → Ascend m fs → Ascend m (drop n fs)
drop_ascend zero m fs h = h
drop_ascend (suc n) m [] h = tt
drop_ascend (suc n) m (f ∷ fs) h = weaker m (f.row + 1) (drop n fs) (omega (arith, h.0)) (drop_ascend n (f.row + 1) fs h.1)

rise_dropped : (n : ℕ) (f : List RowMatches) → Ascend 0 f → Rise 0 (jump_rows (found_from n f))
rise_dropped n f h = jumps_rise 0 (found_from n f) (drop_ascend _ 0 f h)

-- the numbers of those between two rows, and of those that follow
pub numbers_between : (m n a b : ℕ) (old fresh : List RowMatches) → m ≤ n → Ascend 0 old → Ascend n fresh → a ≡ below m (jump_rows old) → b ≡ below n (jump_rows old)
    → numbers_with (jump_rows fresh) (numbers_with (take (b - a) (drop a (jump_rows old))) []) ≡ jump_rows (found_from m (found_above n old ++ fresh))
numbers_between m n a b old fresh le h k ea eb =
    let ns = jump_rows old in
    let some : a + (b - a) ≡ b = omega (arith, below_ordered m n ns le, ea, eb) in
    let mid : take (b - a) (drop a ns) ≡ drop (below m ns) (take (below n ns) ns) = sym (drop-take a (b - a) ns) ∙ ap (λ j. drop a (take j ns)) some ∙ ap₂ (λ i j. drop i (take j ns)) ea eb in
    let whole = found_above n old ++ fresh in
    let up : Ascend 0 whole = put_ascend 0 n old fresh (omega arith) h k in
    let split : jump_rows whole ≡ take (below n ns) ns ++ jump_rows fresh = jumps_both (found_above n old) fresh ∙ ap (λ l. l ++ jump_rows fresh) (sym (above_numbers n 0 old h)) in
    let all : jump_rows (found_from m whole) ≡ drop (below m ns) (take (below n ns) ns) ++ jump_rows fresh =
    from_numbers m 0 whole up ∙ ap (λ l. drop (below m l) l) split ∙ between m n ns (jump_rows fresh) le (jumps_rise n fresh k) in
    let rising : Rise 0 (drop (below m ns) (take (below n ns) ns) ++ jump_rows fresh) = rw (sym all) (rise_dropped m whole up) in
    ap (λ l. numbers_with (jump_rows fresh) (numbers_with l [])) mid ∙ sym (with_both (drop (below m ns) (take (below n ns) ns)) (jump_rows fresh) [])
    ∙ rising_numbers 0 (drop (below m ns) (take (below n ns) ns) ++ jump_rows fresh) rising ∙ sym all
