-- Laws of a text cut at its newlines.
use Rattle.std.proofs.Common.{◌≡◌, ℕ, zero, suc, ◌+◌, ◌-◌, ◌<◌, ◌≤◌, Bool, true, false, eqb, cond, List, [], ◌∷◌, ◌++◌, length, map, take, drop, get_or, refl, sym, ap, ◌∙◌, arith, inl, inr}
use Rattle.std.specs.List.{sum_by, position_or_len, before_first, after_first, slice_split, onto_first}
use Rattle.std.specs.Str.Lines.{lines_of_parts, strip_carriage_return}
use Rattle.std.proofs.lemmas.Bool.{cases_Bool, eqb-true, cases_lt}
use Rattle.std.specs.Str.{IsUtf8, IsCharBoundary}
use Rattle.std.proofs.lemmas.Str.{IsCharBoundary-start, IsCharBoundary-after_ascii}
use Rattle.std.proofs.lemmas.List.{length-take-le, length-drop, length-append, get_or_append_left}
use Rattle.std.proofs.lemmas.List.Sums.{sum_by-cons, position_or_len_is}
use Rattle.minus_text.specs.Lines.{Cut, onto, cut, behind, LinesAreCut}
use Rattle.minus_text.specs.Kept.{bytes_of}

-- whether a byte is a newline
abbrev pub nl : ℕ → Bool
nl b = eqb b 10

-- a text goes on behind its open line
pub cut-append : (xs ys : List ℕ) → cut (xs ++ ys) ≡ record { closed = (cut xs).closed ++ (cut ((cut xs).open_line ++ ys)).closed; open_line = (cut ((cut xs).open_line ++ ys)).open_line }
cut-append [] ys = refl
cut-append (b ∷ xs) ys = elim (cases_Bool (eqb b 10)) [
  | inl e ↦ rw (e, cut-append xs ys) refl
  | inr e ↦ rw (e, cut-append xs ys) (onto-append b (cut xs).closed (cut xs).open_line ys e)
]
  where
    onto-append : (b : ℕ) (c : List (List ℕ)) (o ys : List ℕ) → eqb b 10 ≡ false →
        onto b (c ++ (cut (o ++ ys)).closed) (cut (o ++ ys)).open_line ≡ record { closed = (onto b c o).closed ++ (cut ((onto b c o).open_line ++ ys)).closed; open_line = (cut ((onto b c o).open_line ++ ys)).open_line }
    onto-append b [] o ys e = rw e refl
    onto-append b (x ∷ c) o ys e = refl

no_newline : (b : ℕ) → (nl b ≡ true → ⊥) → nl b ≡ false
no_newline b h = elim (cases_Bool (eqb b 10)) [
  | inl t ↦ absurd (h t)
  | inr f ↦ f
]

-- where the first newline is
pub position_no : (b : ℕ) (bs : List ℕ) → eqb b 10 ≡ false → position_or_len nl (b ∷ bs) ≡ suc (position_or_len nl bs)
position_no b bs e = rw e (omega arith)

pub position_yes : (b : ℕ) (bs : List ℕ) → eqb b 10 ≡ true → position_or_len nl (b ∷ bs) ≡ 0
position_yes b bs e = rw e refl

-- the first line of a text that has a newline
pub cut_first : (bs : List ℕ) → position_or_len nl bs < length bs → cut bs ≡ record { closed = before_first nl bs ∷ (cut (after_first nl bs)).closed; open_line = (cut (after_first nl bs)).open_line }
cut_first [] l = absurd (omega arith)
cut_first (b ∷ bs) l = elim (cases_Bool (eqb b 10)) [
  | inl e ↦ rw e refl
  | inr e ↦
      let h = position_no b bs e in
      let ih = cut_first bs (omega arith) in
      let at : position_or_len nl (b ∷ bs) + 1 ≡ suc (position_or_len nl bs + 1) = omega arith in
      let first : before_first nl (b ∷ bs) ≡ b ∷ before_first nl bs = ap (λ n. take n (b ∷ bs)) h in
      let after : after_first nl (b ∷ bs) ≡ after_first nl bs = ap (λ n. drop n (b ∷ bs)) at in
      ap (λ (x : Bool). cond x (record { closed = [] ∷ (cut bs).closed; open_line = (cut bs).open_line }) (onto b (cut bs).closed (cut bs).open_line)) e
      ∙ ap (λ (c : Cut). onto b c.closed c.open_line) ih
      ∙ ap2_line (b ∷ before_first nl bs) (before_first nl (b ∷ bs)) (after_first nl bs) (after_first nl (b ∷ bs)) (sym first) (sym after)
]
  where
    ap2_line : (x x' y y' : List ℕ) → x ≡ x' → y ≡ y' → (let r : Cut = record { closed = x ∷ (cut y).closed; open_line = (cut y).open_line } in r) ≡ record { closed = x' ∷ (cut y').closed; open_line = (cut y').open_line }
    ap2_line x x' y y' e f = rw (e, f) refl

-- a text with no newline
pub cut_none : (bs : List ℕ) → position_or_len nl bs ≡ length bs → cut bs ≡ record { closed = []; open_line = bs }
cut_none [] e = refl
cut_none (b ∷ bs) e = elim (cases_Bool (eqb b 10)) [
  | inl t ↦ let z = position_yes b bs t in absurd (omega arith)
  | inr f ↦ let h = position_no b bs f in rw (f, cut_none bs (omega arith)) refl
]

-- the first newline, where each byte was asked
pub newline_at : (bs : List ℕ) (k : ℕ) → k < length bs → ((i : ℕ) → 0 ≤ i → i < k → nl (get_or bs i 0) ≡ true → ⊥) → nl (get_or bs k 0) ≡ true → position_or_len nl bs ≡ k
newline_at bs k l before here = position_or_len_is nl bs k 0 (omega (arith, l)) (λ i a. no_newline (get_or bs i 0) (before i (omega arith) a)) (λ a. here)

pub newline_nowhere : (bs : List ℕ) → ((i : ℕ) → 0 ≤ i → i < length bs → nl (get_or bs i 0) ≡ true → ⊥) → position_or_len nl bs ≡ length bs
newline_nowhere bs none = position_or_len_is nl bs (length bs) 0 (omega arith) (λ i a. no_newline (get_or bs i 0) (none i (omega arith) a)) (λ a. absurd (omega (arith, a)))

-- the line before it, and what follows it
pub cut_at_newline : (bs : List ℕ) (k : ℕ) → k < length bs → position_or_len nl bs ≡ k → cut bs ≡ behind (take k bs) (cut (drop (k + 1) bs))
cut_at_newline bs k l e = cut_first bs (omega (arith, l, e)) ∙ ap (λ n. behind (take n bs) (cut (drop (n + 1) bs))) e

-- a text is split at its newlines as std splits it
parts : (bs : List ℕ) → slice_split nl bs ≡ (cut bs).closed ++ (cut bs).open_line ∷ []
parts [] = refl
parts (b ∷ bs) = elim (cases_Bool (eqb b 10)) [
  | inl t ↦ rw (t, parts bs) refl
  | inr f ↦ rw (f, parts bs) (onto_parts b (cut bs).closed (cut bs).open_line)
]
  where
    onto_parts : (b : ℕ) (c : List (List ℕ)) (o : List ℕ) → onto_first b (c ++ o ∷ []) ≡ (onto b c o).closed ++ (onto b c o).open_line ∷ []
    onto_parts b [] o = refl
    onto_parts b (x ∷ c) o = refl

lines_parts : (c : List (List ℕ)) (o : List ℕ) → lines_of_parts (c ++ o ∷ []) ≡ map strip_carriage_return c ++ cond (eqb (length o) 0) [] (o ∷ [])
lines_parts [] o = refl
lines_parts (x ∷ []) o = ap (λ ls. strip_carriage_return x ∷ ls) (lines_parts [] o)
lines_parts (x ∷ y ∷ c) o = ap (λ ls. strip_carriage_return x ∷ ls) (lines_parts (y ∷ c) o)

pub lines-cut : LinesAreCut
lines-cut text = ap lines_of_parts (parts text) ∙ lines_parts (cut text).closed (cut text).open_line

-- the bytes round the first newline
pub around_first : (bs : List ℕ) → position_or_len nl bs < length bs → (length (before_first nl bs) + 1) + length (after_first nl bs) ≡ length bs
around_first bs l =
    let a : length (before_first nl bs) ≡ position_or_len nl bs = length-take-le (position_or_len nl bs) bs (omega arith) in
    let b : length (after_first nl bs) ≡ length bs - (position_or_len nl bs + 1) = length-drop (position_or_len nl bs + 1) bs in
    omega arith

-- where the open line begins
pub record IsOpenAt (bs : List ℕ) (at : ℕ) : Type 0 where
  pub within : at ≤ length bs
  pub rest : drop at bs ≡ (cut bs).open_line
  pub after : 0 < at → get_or bs (at - 1) 0 ≡ 10

newline_more : (b : ℕ) (bs : List ℕ) (at n : ℕ) → n ≡ suc at → (0 < at → get_or bs (at - 1) 0 ≡ 10) → (at ≡ 0 → b ≡ 10) → get_or (b ∷ bs) (n - 1) 0 ≡ 10
newline_more b bs zero n e h k = let z : n - 1 ≡ 0 = omega arith in rw z (k refl)
newline_more b bs (suc at) n e h k =
    let z : n - 1 ≡ suc at = omega arith in
    let y : suc at - 1 ≡ at = omega arith in
    rw z (rw y at (h (omega arith)))

open_more : (b : ℕ) (bs : List ℕ) (at n : ℕ) (o : List ℕ) → IsOpenAt bs at → n ≡ suc at → (at ≡ 0 → b ≡ 10) → (n ≤ length (b ∷ bs)) × (drop n (b ∷ bs) ≡ drop at bs) × (0 < n → get_or (b ∷ bs) (n - 1) 0 ≡ 10)
open_more b bs at n o h e k = (let w : at ≤ length bs = h.within in omega arith, rw e refl, λ l. newline_more b bs at n e h.after k)

open_onto : (b : ℕ) (bs : List ℕ) (c : List (List ℕ)) (o : List ℕ) → (let P : Type 0 = (sum_by bytes_of c ≤ length bs) × (drop (sum_by bytes_of c) bs ≡ o) × (0 < sum_by bytes_of c → get_or bs (sum_by bytes_of c - 1) 0 ≡ 10) in P) →
    (sum_by bytes_of (onto b c o).closed ≤ length (b ∷ bs)) × (drop (sum_by bytes_of (onto b c o).closed) (b ∷ bs) ≡ (onto b c o).open_line) × (0 < sum_by bytes_of (onto b c o).closed → get_or (b ∷ bs) (sum_by bytes_of (onto b c o).closed - 1) 0 ≡ 10)
open_onto b bs [] o h = (omega arith, ap (λ xs. b ∷ xs) h.1, λ l. absurd (omega arith))
open_onto b bs (x ∷ c) o h =
    let n : sum_by bytes_of ((b ∷ x) ∷ c) ≡ suc (sum_by bytes_of (x ∷ c)) = omega (arith, sum_by-cons bytes_of (b ∷ x) c, sum_by-cons bytes_of x c) in
    let some : 0 < sum_by bytes_of (x ∷ c) = omega (arith, sum_by-cons bytes_of x c) in
    let w : sum_by bytes_of (x ∷ c) ≤ length bs = h.0 in
    (omega arith, ap (λ m. drop m (b ∷ bs)) n ∙ h.1, λ l. newline_more b bs (sum_by bytes_of (x ∷ c)) (sum_by bytes_of ((b ∷ x) ∷ c)) n h.2 (λ z. absurd (omega arith)))

pub open_at : (bs : List ℕ) → IsOpenAt bs (sum_by bytes_of (cut bs).closed)
open_at [] = record { within = omega arith; rest = refl; after = λ l. absurd (omega arith) }
open_at (b ∷ bs) =
    let ih = open_at bs in
    elim (cases_Bool (eqb b 10)) [
      | inl t ↦
          let n : sum_by bytes_of ([] ∷ (cut bs).closed) ≡ suc (sum_by bytes_of (cut bs).closed) = omega (arith, sum_by-cons bytes_of [] (cut bs).closed) in
          let m = open_more b bs (sum_by bytes_of (cut bs).closed) (sum_by bytes_of ([] ∷ (cut bs).closed)) [] ih n (λ z. eqb-true b 10 t) in
          let is : cut (b ∷ bs) ≡ record { closed = [] ∷ (cut bs).closed; open_line = (cut bs).open_line } = rw t refl in
          rw is (record { within = m.0; rest = rw is (m.1 ∙ ih.rest); after = m.2 })
      | inr f ↦
          let m = open_onto b bs (cut bs).closed (cut bs).open_line (ih.within, ih.rest, ih.after) in
          let is : cut (b ∷ bs) ≡ onto b (cut bs).closed (cut bs).open_line = rw f refl in
          rw is (record { within = m.0; rest = rw is m.1; after = m.2 })
    ]

pub open_boundary : (text piece : List ℕ) → IsUtf8 (text ++ piece) → IsCharBoundary (text ++ piece) (sum_by bytes_of (cut text).closed)
open_boundary text piece u =
    let h = open_at text in
    let within : sum_by bytes_of (cut text).closed ≤ length text = h.within in
    elim (cases_lt 0 (sum_by bytes_of (cut text).closed)) [
      | inl some ↦
          let lt : sum_by bytes_of (cut text).closed - 1 < length text = omega arith in
          let len = length-append text piece in
          let b : get_or (text ++ piece) (sum_by bytes_of (cut text).closed - 1) 0 ≡ 10 = get_or_append_left text piece 0 (sum_by bytes_of (cut text).closed - 1) lt ∙ h.after some in
          let k = IsCharBoundary-after_ascii (text ++ piece) (sum_by bytes_of (cut text).closed - 1) u (omega arith) (omega arith) in
          let e : (sum_by bytes_of (cut text).closed - 1) + 1 ≡ sum_by bytes_of (cut text).closed = omega arith in
          rw e at k
      | inr none ↦ let e : sum_by bytes_of (cut text).closed ≡ 0 = omega arith in rw e (IsCharBoundary-start (text ++ piece) u)
    ]

pub lines-le-bytes : (xs : List (List ℕ)) → length xs ≤ sum_by bytes_of xs
lines-le-bytes [] = omega arith
lines-le-bytes (x ∷ xs) = omega (arith, sum_by-cons bytes_of x xs, lines-le-bytes xs)
