-- How many lines a text has that went on, and a line without its carriage return.
use Rattle.std.proofs.Common.{◌≡◌, ◌≢◌, ℕ, ◌+◌, ◌-◌, ◌<◌, ◌≤◌, Bool, true, false, not, eqb, cond, List, [], ◌∷◌, ◌++◌, length, map, take, drop, get_or, refl, sym, ap, ◌∙◌, arith, append_assoc, inl, inr}
use mir.Val.{bool_byte}
use Rattle.std.specs.List.{sum_by}
use Rattle.std.specs.Str.Lines.{lines, strip_carriage_return}
use Rattle.std.proofs.lemmas.Bool.{cases_Bool, eqb-true, ne_eqb}
use Rattle.std.proofs.lemmas.List.{append-nil, length-append, length-map, take_more, take_all}
use Rattle.std.proofs.lemmas.List.Sums.{sum_by-append, sum_by-cons}
use Rattle.minus_text.specs.Lines.{Cut, onto, cut, whole, behind, unfinished_line}
use Rattle.minus_text.proofs.LinesLaws.{cut-append, lines-cut}
use Rattle.minus_text.proofs.PreparedLaws.{whole_append, front_cut}
use Rattle.minus_text.proofs.SeamLaws.{strip_behind}
use Rattle.minus_text.proofs.ScreenLaws.{open_whole}

-- 1 for a newline
abbrev pub newline_here : ℕ → ℕ
newline_here b = cond (eqb b 10) 1 0

-- 0 for what is so, and else 1
abbrev pub unless : Bool → ℕ
unless true = 0
unless false = 1

pub one_unless : (b : Bool) → bool_byte (not b) ≡ unless b
one_unless true = refl
one_unless false = refl

pub bit_few : (b : Bool) → bool_byte b ≤ 1
bit_few true = omega arith
bit_few false = omega arith

onto-count : (b : ℕ) (c : List (List ℕ)) (o : List ℕ) → length (onto b c o).closed ≡ length c
onto-count b [] o = refl
onto-count b (x ∷ c) o = refl

-- each newline ends a line
pub closed-count : (bs : List ℕ) → length (cut bs).closed ≡ sum_by newline_here bs
closed-count [] = refl
closed-count (b ∷ bs) = elim (cases_Bool (eqb b 10)) [
  | inl t ↦
      let is : cut (b ∷ bs) ≡ record { closed = [] ∷ (cut bs).closed; open_line = (cut bs).open_line } = rw t refl in
      let one : newline_here b ≡ 1 = rw t refl in
      omega (arith, ap (λ (c : Cut). length c.closed) is, one, sum_by-cons newline_here b bs, closed-count bs)
  | inr f ↦
      let is : cut (b ∷ bs) ≡ onto b (cut bs).closed (cut bs).open_line = rw f refl in
      let none : newline_here b ≡ 0 = rw f refl in
      omega (arith, ap (λ (c : Cut). length c.closed) is, onto-count b (cut bs).closed (cut bs).open_line, none, sum_by-cons newline_here b bs, closed-count bs)
]

-- how many lines a text has: those that a newline ends, and what follows the last newline
lines-count : (text : List ℕ) → length (lines text) ≡ length (cut text).closed + unless (eqb (length (unfinished_line text)) 0)
lines-count text = ap length (lines-cut text) ∙ length-append (map strip_carriage_return (cut text).closed) (cond (eqb (length (unfinished_line text)) 0) [] (unfinished_line text ∷ [])) ∙ (elim (cases_Bool (eqb (length (unfinished_line text)) 0)) [
  | inl t ↦ rw t (omega (arith, length-map (cut text).closed strip_carriage_return))
  | inr f ↦ rw f (omega (arith, length-map (cut text).closed strip_carriage_return))
])

-- what follows the last newline of a text that goes on by one byte
open_last : (text : List ℕ) (b : ℕ) → unless (eqb (length (unfinished_line (text ++ b ∷ []))) 0) ≡ unless (eqb b 10)
open_last text b =
    let o : List ℕ = unfinished_line text in
    let is : unfinished_line (text ++ b ∷ []) ≡ (cut (o ++ b ∷ [])).open_line = ap (λ (c : Cut). c.open_line) (cut-append text (b ∷ [])) in
    elim (cases_Bool (eqb b 10)) [
      | inl t ↦
          let ten : b ≡ 10 = eqb-true b 10 t in
          let none : cut (o ++ b ∷ []) ≡ behind (o ++ []) (cut []) = front_cut o (b ∷ []) [] (cut []) (open_whole text) (rw t refl) in
          let empty : unfinished_line (text ++ b ∷ []) ≡ [] = is ∙ ap (λ (c : Cut). c.open_line) none in
          rw (empty, t) refl
      | inr f ↦
          let all : cut (o ++ b ∷ []) ≡ whole (o ++ b ∷ []) = whole_append o (b ∷ []) (open_whole text) (rw f refl) in
          let some : unfinished_line (text ++ b ∷ []) ≡ o ++ b ∷ [] = is ∙ ap (λ (c : Cut). c.open_line) all in
          let other : eqb (length (o ++ b ∷ [])) 0 ≡ false = ne_eqb (length (o ++ b ∷ [])) 0 (λ z. omega (arith, z, length-append o (b ∷ []))) in
          rw (some, other, f) refl
    ]

-- with a piece behind a text there are those that newlines end, and one more unless the piece ends with a newline
pub lines_counted : (text piece : List ℕ) (ends : Bool) → 0 < length piece → (ends ≡ true → piece ≡ take (length piece - 1) piece ++ 10 ∷ []) → ((front : List ℕ) → piece ≡ front ++ 10 ∷ [] → ends ≡ true)
    → length (lines (text ++ piece)) ≡ (length (cut text).closed + length (cut piece).closed) + unless ends
lines_counted text piece ends some ended other =
    let n : ℕ = length piece - 1 in
    let b : ℕ = get_or piece n 0 in
    let last : piece ≡ take n piece ++ b ∷ [] = sym (take_all (n + 1) piece (omega arith)) ∙ take_more piece n 0 (omega arith) in
    let all : text ++ piece ≡ (text ++ take n piece) ++ b ∷ [] = ap (λ xs. text ++ xs) last ∙ sym (append_assoc text (take n piece) (b ∷ [])) in
    let newlines : length (cut (text ++ piece)).closed ≡ length (cut text).closed + length (cut piece).closed = omega (arith, closed-count (text ++ piece), closed-count text, closed-count piece, sum_by-append newline_here text piece) in
    let open_is : unless (eqb (length (unfinished_line (text ++ piece))) 0) ≡ unless (eqb b 10) = ap (λ xs. unless (eqb (length (unfinished_line xs)) 0)) all ∙ open_last (text ++ take n piece) b in
    let same : eqb b 10 ≡ ends = go ends refl in
    omega (arith, lines-count (text ++ piece), newlines, open_is, ap unless same)
  where
    last_same : (xs : List ℕ) (x y : ℕ) → xs ++ x ∷ [] ≡ xs ++ y ∷ [] → x ≡ y
    last_same [] x y e = ap (λ zs. get_or zs 0 0) e
    last_same (z ∷ xs) x y e = last_same xs x y (ap (drop 1) e)

    go : (x : Bool) → ends ≡ x → eqb (get_or piece (length piece - 1) 0) 10 ≡ x
    go true e =
        let n : ℕ = length piece - 1 in
        let last : piece ≡ take n piece ++ get_or piece n 0 ∷ [] = sym (take_all (n + 1) piece (omega arith)) ∙ take_more piece n 0 (omega arith) in
        let both : take n piece ++ get_or piece n 0 ∷ [] ≡ take n piece ++ 10 ∷ [] = sym last ∙ ended e in
        let same : get_or piece n 0 ≡ 10 = last_same (take n piece) (get_or piece n 0) 10 both in
        rw same refl
    go false e = elim (cases_Bool (eqb (get_or piece (length piece - 1) 0) 10)) [
      | inl t ↦
          let n : ℕ = length piece - 1 in
          let ten : get_or piece n 0 ≡ 10 = eqb-true (get_or piece n 0) 10 t in
          let last : piece ≡ take n piece ++ get_or piece n 0 ∷ [] = sym (take_all (n + 1) piece (omega arith)) ∙ take_more piece n 0 (omega arith) in
          let is : ends ≡ true = other (take n piece) (last ∙ ap (λ x. take n piece ++ x ∷ []) ten) in
          absurd (let d : true ≡ false = sym is ∙ e in cc)
      | inr f ↦ f
    ]

-- ---- a line without its carriage return

pub strip_ended : (xs front : List ℕ) → xs ≡ front ++ 13 ∷ [] → strip_carriage_return xs ≡ front
strip_ended xs front e = ap strip_carriage_return e ∙ strip_behind front (13 ∷ []) (omega arith) ∙ append-nil front

pub strip_other : (xs : List ℕ) → ((front : List ℕ) → xs ≢ front ++ 13 ∷ []) → strip_carriage_return xs ≡ xs
strip_other xs none = elim (cases_Bool (eqb (get_or xs (length xs - 1) 0) 13)) [
  | inl t ↦ absurd (ends xs none (eqb-true (get_or xs (length xs - 1) 0) 13 t))
  | inr f ↦ rw f refl
]
  where
    ends : (xs : List ℕ) → ((front : List ℕ) → xs ≢ front ++ 13 ∷ []) → get_or xs (length xs - 1) 0 ≡ 13 → ⊥
    ends [] none e = absurd (omega (arith, e))
    ends (b ∷ bs) none e =
        let n : ℕ = length (b ∷ bs) - 1 in
        let last : b ∷ bs ≡ take n (b ∷ bs) ++ get_or (b ∷ bs) n 0 ∷ [] = sym (take_all (n + 1) (b ∷ bs) (omega arith)) ∙ take_more (b ∷ bs) n 0 (omega arith) in
        none (take n (b ∷ bs)) (last ∙ ap (λ x. take n (b ∷ bs) ++ x ∷ []) e)
