-- Appends in one go leave the rows before them as they are where each of them does.
use Rattle.std.proofs.Common.{◌≡◌, ℕ, zero, suc, ◌+◌, ◌-◌, ◌/◌, ◌^◌, ◌<◌, ◌≤◌, ◌&&◌, ◌==◌, Bool, true, false, List, [], ◌∷◌, ◌++◌, length, take, get_or, refl, sym, ap, ◌∙◌, arith, append_assoc, inl, inr}
use Rattle.std.specs.Prelude.{nat_lt}
use Rattle.std.specs.Fmt.{decimal}
use Rattle.std.specs.List.{sum_by}
use Rattle.std.specs.Str.Lines.{lines}
use Rattle.std.proofs.lemmas.Bool.{cases_Bool, eqb-true, eq-eqb, ne_eqb, ltb-true, ltb-false}
use Rattle.std.proofs.lemmas.List.{append-nil, length-append, length-take, take_all, take_more, get_or_at}
use Rattle.std.proofs.lemmas.List.Sums.{sum_by-append, sum_by-cons}
use Rattle.minus_text.specs.Lines.{cut}
use Rattle.minus_text.specs.NumberPrefix.{is_on, padding}
use Rattle.minus_text.specs.Layouts.{margin}
use Rattle.minus_text.specs.declared.line_numbers.LineNumbers.{LineNumbers}
use Rattle.minus_text.proofs.DigitsLaws.{length-decimal_step, length-decimal_digit}
use Rattle.minus_text.proofs.LineCountLaws.{lines_counted, closed-count, newline_here, unless}
use Rattle.minus_state.specs.Control.{Control}
use Rattle.minus_state.specs.Appending.{keeps_rows_with}

-- the digits of a number do not become fewer
digits_grow : (fuel n m : ℕ) → m < fuel → n ≤ m → m < 2 ^ 64 → length (decimal n) ≤ length (decimal m)
digits_grow zero n m f l fits = absurd (omega (arith, f))
digits_grow (suc fuel) n m f l fits = elim (cases_Bool (nat_lt m 10)) [
  | inl t ↦ (let small = ltb-true m 10 t in let a = length-decimal_digit n (omega (arith, small, l)) in let b = length-decimal_digit m small in omega (arith, a, b))
  | inr t ↦ (
      let big = ltb-false m 10 t in
      let step = length-decimal_step m (omega (arith, big)) fits in
      elim (cases_Bool (nat_lt n 10)) [
        | inl u ↦ (let a = length-decimal_digit n (ltb-true n 10 u) in omega (arith, a, step))
        | inr u ↦ (
            let more = ltb-false n 10 u in
            let first = length-decimal_step n (omega (arith, more)) (omega (arith, l, fits)) in
            let ih = digits_grow fuel (n / 10) (m / 10) (omega (arith, big, f)) (omega (arith, l)) (omega (arith, fits)) in
            omega (arith, first, step, ih)
            )
      ]
      )
]

-- the last of some, and whether it is a newline
last_is : (xs : List ℕ) → 1 ≤ length xs → xs ≡ take (length xs - 1) xs ++ get_or xs (length xs - 1) 0 ∷ []
last_is xs some = (let n : ℕ = length xs - 1 in sym (take_all (n + 1) xs (omega (arith, some))) ∙ take_more xs n 0 (omega (arith, some)))

ended_by : (xs front : List ℕ) → xs ≡ front ++ 10 ∷ [] → get_or xs (length xs - 1) 0 ≡ 10
ended_by xs front e =
    let n : length front ≡ length (front ++ 10 ∷ []) - 1 = (let l = length-append front (10 ∷ []) in omega (arith, l)) in
    ap (λ (ys : List ℕ). get_or ys (length ys - 1) 0) e ∙ get_or_at front 10 [] 0 (length (front ++ 10 ∷ []) - 1) n

ends_so : List ℕ → Bool
ends_so xs = get_or xs (length xs - 1) 0 == 10

counted : (text piece : List ℕ) → 1 ≤ length piece → length (lines (text ++ piece)) ≡ (length (cut text).closed + length (cut piece).closed) + unless (ends_so piece)
unfolding ends_so
counted text piece some =
    lines_counted text piece (ends_so piece) some
    (λ e. last_is piece some ∙ ap (λ (x : ℕ). take (length piece - 1) piece ++ x ∷ []) (eqb-true _ 10 e))
    (λ front e. eq-eqb _ 10 (ended_by piece front e))

unless_le : (x : Bool) → unless x ≤ 1
unless_le true = omega arith
unless_le false = omega arith

-- what ends with a newline has one
closes : (piece : List ℕ) → 1 ≤ length piece → 1 ≤ length (cut piece).closed + unless (ends_so piece)
unfolding ends_so
closes piece some = elim (cases_Bool (ends_so piece)) [
  | inl t ↦ (
      let ten : get_or piece (length piece - 1) 0 ≡ 10 = eqb-true _ 10 t in
      let parts : sum_by newline_here piece ≡ sum_by newline_here (take (length piece - 1) piece) + 1 = ap (sum_by newline_here) (last_is piece some ∙ ap (λ (x : ℕ). take (length piece - 1) piece ++ x ∷ []) ten) ∙ sum_by-append newline_here (take (length piece - 1) piece) (10 ∷ []) in
      omega (arith, parts, closed-count piece)
      )
  | inr t ↦ rw t (omega arith)
]

-- the lines do not become fewer
lines_grow : (text piece : List ℕ) → length (lines text) ≤ length (lines (text ++ piece))
lines_grow text [] = rw (append-nil text) (omega arith)
lines_grow [] (b ∷ bs) = omega arith
lines_grow (a ∷ rest) (b ∷ bs) =
    let all = counted (a ∷ rest) (b ∷ bs) (omega arith) in
    let first = counted [] (a ∷ rest) (omega arith) in
    let none = closed-count [] in
    let low = unless_le (ends_so (a ∷ rest)) in
    let some = closes (b ∷ bs) (omega arith) in
    omega (arith, all, first, none, low, some)

newlines_few : (xs : List ℕ) → sum_by newline_here xs ≤ length xs
newlines_few [] = omega arith
newlines_few (x ∷ xs) = (let ih = newlines_few xs in let one = here_few x in let all = sum_by-cons newline_here x xs in omega (arith, ih, one, all))
  where
    here_few : (b : ℕ) → newline_here b ≤ 1
    here_few b = elim (cases_Bool (b == 10)) [
      | inl t ↦ rw t (omega arith)
      | inr t ↦ rw t (omega arith)
    ]

-- a text has at most as many lines more as it has bytes more
pub lines_few : (text piece : List ℕ) → length (lines (text ++ piece)) ≤ length (lines text) + length piece
unfolding ends_so
lines_few text [] = rw (append-nil text) (omega arith)
lines_few text (b ∷ bs) =
    let piece : List ℕ = b ∷ bs in
    let all = counted text piece (omega arith) in
    let before = closed_few text in
    let last : ℕ = get_or piece (length piece - 1) 0 in
    let parts : sum_by newline_here piece ≡ sum_by newline_here (take (length piece - 1) piece) + (0 + newline_here last) = ap (sum_by newline_here) (last_is piece (omega arith)) ∙ sum_by-append newline_here (take (length piece - 1) piece) (last ∷ []) in
    let front = newlines_few (take (length piece - 1) piece) in
    let fewer = length-take (length piece - 1) piece in
    let closed = closed-count piece in
    elim (cases_Bool (last == 10)) [
      | inl t ↦ (let one : newline_here last ≡ 1 = rw t refl in let none : unless (ends_so piece) ≡ 0 = rw t refl in omega (arith, all, before, parts, front, fewer, closed, one, none))
      | inr t ↦ (let none : newline_here last ≡ 0 = rw t refl in let one : unless (ends_so piece) ≡ 1 = rw t refl in omega (arith, all, before, parts, front, fewer, closed, one, none))
    ]
  where
    closed_few : (xs : List ℕ) → length (cut xs).closed ≤ length (lines xs)
    closed_few [] = omega (arith, closed-count [])
    closed_few (a ∷ rest) = (let first = counted [] (a ∷ rest) (omega arith) in omega (arith, first))

-- the columns that numbers take do not become fewer
margin_grows : (numbers : LineNumbers) (x y : ℕ) → x ≤ y → y < 2 ^ 64 → margin numbers x ≤ margin numbers y
unfolding padding
margin_grows numbers x y l fits = elim (cases_Bool (is_on numbers)) [
  | inl e ↦ rw e (let more = digits_grow (y + 1) x y (omega arith) l fits in omega (arith, more))
  | inr e ↦ rw e (omega arith)
]

-- what does not fall stays over two steps where it stays over each
stays_twice : (k : Bool) (x y z : ℕ) → x ≤ y → y ≤ z → (k && (z == x)) ≡ ((k && (y == x)) && (k && (z == y)))
stays_twice false x y z l m = refl
stays_twice true x y z l m = elim (cases_Bool (z == x)) [
  | inl t ↦ (
      let all : z ≡ x = eqb-true z x t in
      let a : (y == x) ≡ true = eq-eqb y x (omega (arith, all, l, m)) in
      let b : (z == y) ≡ true = eq-eqb z y (omega (arith, all, l, m)) in
      rw (t, a, b) refl
      )
  | inr f ↦ elim (cases_Bool (y == x)) [
    | inl u ↦ (
        let same : y ≡ x = eqb-true y x u in
        let b : (z == y) ≡ false = ne_eqb z y (λ e. (let none : (z == x) ≡ true = eq-eqb z x (e ∙ same) in let both : true ≡ false = sym none ∙ f in cc)) in
        rw (f, u, b) refl
        )
    | inr u ↦ rw (f, u) refl
  ]
]

-- two texts that are appended in one go leave the rows before them as they are where each of them does
pub keeps_join : (c : Control) (a b : List ℕ) → length (lines (c.text ++ a ++ b)) < 2 ^ 64 → keeps_rows_with c (a ++ b) ≡ (keeps_rows_with c a && keeps_rows_with (record c { text = c.text ++ a }) b)
keeps_join c a b fits =
    let text : List ℕ = c.text in
    let joined : text ++ (a ++ b) ≡ text ++ a ++ b = sym (append_assoc text a b) in
    let one = lines_grow text a in
    let two = lines_grow (text ++ a) b in
    let low = margin_grows c.numbers (length (lines text)) (length (lines (text ++ a))) one (omega (arith, two, fits)) in
    let high = margin_grows c.numbers (length (lines (text ++ a))) (length (lines (text ++ a ++ b))) two fits in
    rw joined (stays_twice (c.cols == c.cols) (margin c.numbers (length (lines text))) (margin c.numbers (length (lines (text ++ a)))) (margin c.numbers (length (lines (text ++ a ++ b)))) low high)
