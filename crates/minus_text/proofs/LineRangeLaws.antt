-- What is found in some of the lines of a text.
use Rattle.std.proofs.Common.{inl, inr, ◌≡◌, ℕ, zero, suc, ◌+◌, ◌-◌, ◌<◌, ◌≤◌, ◌==◌, false, min, List, [], ◌∷◌, ◌++◌, length, take, drop, get_or, refl, sym, ap, ap₂, subst, subst₂, ◌∙◌, arith, length-append}
use Rattle.std.specs.Str.Lines.{lines}
use Rattle.std.proofs.Math.Nat.{min-eq_left, min-eq_right}
use Rattle.std.proofs.lemmas.Bool.{cases_Bool, cases_lt, ne_eqb}
use Rattle.std.proofs.lemmas.List.{append-nil, take_all, length-drop, length-take-le, take_more, get_or-drop, take-append-drop, drop-drop}
use Rattle.std.proofs.lemmas.List.Concat.{flat_map-append}
use Rattle.regex.specs.Patterns.{Re}
use Rattle.minus_text.specs.declared.layout.Wrap.{Wrap}
use Rattle.minus_text.specs.Layouts.{own_rows}
use Rattle.minus_text.specs.Document.{first_rows, rows_of_lines}
use Rattle.minus_text.specs.Lines.{cut}
use Rattle.minus_text.specs.LineSplits.{lines_of}
use Rattle.minus_text.specs.Found.{RowMatches, found_of_row, Ascend, AreFoundIn}
use Rattle.minus_text.specs.LineFinds.{finds_in_line, finds_in_lines}
use Rattle.minus_text.specs.LineMaps.{IsLineOfRow}
use Rattle.minus_text.proofs.DocumentLaws.{length-first_rows, first_rows-ascend}
use Rattle.minus_text.proofs.LayoutLaws.{own_rows-some}
use Rattle.minus_text.proofs.LineMapLaws.{ascends_to}
use Rattle.minus_text.proofs.FoundInLaws.{none_later}
use Rattle.minus_text.proofs.LinesLaws.{lines-cut}
use Rattle.minus_text.proofs.StoredLineLaws.{first_is}
use Rattle.minus_text.proofs.FindsLaws.{Below, lines_below, finds_append, lines_ascend}

-- what is found in some lines of many, from one on up to but without another
abbrev pub between : Re → Wrap → List (List ℕ) → ℕ → ℕ → List RowMatches
between re wrap ls start end = finds_in_lines re wrap (get_or (first_rows wrap 0 ls) start 0) (take (end - start) (drop start ls))

rows_both : (wrap : Wrap) (xs ys : List (List ℕ)) → rows_of_lines wrap (xs ++ ys) ≡ rows_of_lines wrap xs ++ rows_of_lines wrap ys
rows_both wrap xs ys = flat_map-append (own_rows wrap) xs ys

take_none : {X : Type 0} (n : ℕ) → take {A = X} n [] ≡ []
take_none zero = refl
take_none (suc n) = refl

take_on : {X : Type 0} (a b : ℕ) (xs : List X) → take (a + b) xs ≡ take a xs ++ take b (drop a xs)
take_on zero b xs = let z : 0 + b ≡ b = omega arith in ap (λ k. take k xs) z
take_on (suc a) b [] = take_none (suc a + b) ∙ sym (take_none b)
take_on (suc a) b (x ∷ xs) = let one : suc a + b ≡ suc (a + b) = omega arith in rw one (ap (λ l. x ∷ l) (take_on a b xs))

-- the first row of a line, counted from that of another above it
pub first_on : (wrap : Wrap) (ls : List (List ℕ)) (start i : ℕ) → start ≤ i → i < length ls
    → get_or (first_rows wrap 0 ls) start 0 + length (rows_of_lines wrap (take (i - start) (drop start ls))) ≡ get_or (first_rows wrap 0 ls) i 0
first_on wrap ls start i le lt =
    let e : start + (i - start) ≡ i = omega (arith, le) in
    let split = ap (rows_of_lines wrap) (ap (λ k. take k ls) (sym e) ∙ take_on start (i - start) ls) ∙ rows_both wrap (take start ls) (take (i - start) (drop start ls)) in
    let a = first_is wrap 0 start ls (omega (arith, le, lt)) in
    let b = first_is wrap 0 i ls lt in
    omega (arith, a, b, ap length split, length-append (rows_of_lines wrap (take start ls)) (rows_of_lines wrap (take (i - start) (drop start ls))))

-- one line more
pub one_more_line : (re : Re) (wrap : Wrap) (ls : List (List ℕ)) (start i : ℕ) → start ≤ i → i < length ls
    → between re wrap ls start i ++ finds_in_line re wrap (get_or (first_rows wrap 0 ls) i 0) (get_or ls i []) ≡ between re wrap ls start (i + 1)
one_more_line re wrap ls start i le lt =
    let n = get_or (first_rows wrap 0 ls) start 0 in
    let some = take (i - start) (drop start ls) in
    let next : (i + 1) - start ≡ (i - start) + 1 = omega (arith, le) in
    let within : i - start < length (drop start ls) = omega (arith, length-drop start ls, le, lt) in
    let back : start + (i - start) ≡ i = omega (arith, le) in
    let same : get_or (drop start ls) (i - start) [] ≡ get_or ls i [] = get_or-drop start ls (i - start) [] ∙ ap (λ k. get_or ls k []) back in
    let grown : take ((i + 1) - start) (drop start ls) ≡ some ++ get_or ls i [] ∷ [] = ap (λ k. take k (drop start ls)) next ∙ take_more (drop start ls) (i - start) [] within ∙ ap (λ x. some ++ x ∷ []) same in
    let at = first_on wrap ls start i le lt in
    sym (ap (finds_in_lines re wrap n) grown ∙ finds_append re wrap n some (get_or ls i [] ∷ [])
    ∙ ap (λ k. finds_in_lines re wrap n some ++ finds_in_lines re wrap k (get_or ls i [] ∷ [])) at
    ∙ ap (λ l. finds_in_lines re wrap n some ++ l) (append-nil (finds_in_line re wrap (get_or (first_rows wrap 0 ls) i 0) (get_or ls i []))))

pub none_between : (re : Re) (wrap : Wrap) (ls : List (List ℕ)) (start : ℕ) → between re wrap ls start start ≡ []
none_between re wrap ls start = let z : start - start ≡ 0 = omega arith in rw z refl

-- lines past the last are not there
pub up_to_last : (re : Re) (wrap : Wrap) (ls : List (List ℕ)) (start end i : ℕ) → start ≤ end → length ls ≤ i → i ≤ end → between re wrap ls start i ≡ between re wrap ls start end
up_to_last re wrap ls start end i le past to =
    let size = length-drop start ls in
    let n = get_or (first_rows wrap 0 ls) start 0 in
    ap (finds_in_lines re wrap n) (take_all (i - start) (drop start ls) (omega (arith, size, past)) ∙ sym (take_all (end - start) (drop start ls) (omega (arith, size, past, to))))

pub all_between : (re : Re) (wrap : Wrap) (ls : List (List ℕ)) (count : ℕ) → length ls ≤ count → between re wrap ls 0 count ≡ finds_in_lines re wrap 0 ls
all_between re wrap [] count le = ap (finds_in_lines re wrap 0) (take_none (count - 0))
all_between re wrap (l ∷ ls) count le = ap (finds_in_lines re wrap 0) (take_all (count - 0) (l ∷ ls) (omega (arith, le)))

-- ---- those above, these, and those below

-- what is found in lines parts into what is found above a line, in some from it on, and in those behind them
module _ (re : Re) (wrap : Wrap) (ls : List (List ℕ)) (a b : ℕ) (le : a ≤ b) (lt : a < length ls) where
  abbrev pub upper : List (List ℕ)
  upper = take a ls

  abbrev pub middle : List (List ℕ)
  middle = take (b - a) (drop a ls)

  abbrev pub lower : List (List ℕ)
  lower = drop b ls

  abbrev pub first_a : ℕ
  first_a = get_or (first_rows wrap 0 ls) a 0

  abbrev pub first_b : ℕ
  first_b = first_a + length (rows_of_lines wrap middle)

  parts_of : ls ≡ upper ++ (middle ++ lower)
  parts_of =
      let e : a + (b - a) ≡ b = omega (arith, le) in
      sym (take-append-drop a ls) ∙ ap (λ l. take a ls ++ l) (sym (take-append-drop (b - a) (drop a ls)) ∙ ap (λ l. middle ++ l) (drop-drop (b - a) a ls ∙ ap (λ k. drop k ls) e))

  at_a : 0 + length (rows_of_lines wrap upper) ≡ first_a
  at_a = sym (first_is wrap 0 a ls lt)

  pub split_found : finds_in_lines re wrap 0 ls ≡ finds_in_lines re wrap 0 upper ++ (between re wrap ls a b ++ finds_in_lines re wrap first_b lower)
  split_found =
      ap (finds_in_lines re wrap 0) parts_of ∙ finds_append re wrap 0 upper (middle ++ lower)
      ∙ ap (λ k. finds_in_lines re wrap 0 upper ++ finds_in_lines re wrap k (middle ++ lower)) at_a
      ∙ ap (λ l. finds_in_lines re wrap 0 upper ++ l) (finds_append re wrap first_a middle lower)

  pub upper_below : Below first_a (finds_in_lines re wrap 0 upper)
  upper_below = rw (sym at_a) (lines_below re wrap 0 upper)

  pub lower_above : Ascend first_b (finds_in_lines re wrap first_b lower)
  lower_above = lines_ascend re wrap first_b lower

  pub middle_ascends : Ascend first_a (between re wrap ls a b)
  middle_ascends = lines_ascend re wrap first_a middle

pub drop_all : {X : Type 0} (n : ℕ) (xs : List X) → length xs ≤ n → drop n xs ≡ []
drop_all zero [] le = refl
drop_all (suc n) [] le = refl
drop_all zero (x ∷ xs) le = absurd (omega (arith, le))
drop_all (suc n) (x ∷ xs) le = drop_all n xs (omega (arith, le))

-- a row by its number
skip_above : (i n : ℕ) (xs ys : List RowMatches) → n ≤ i → Below n xs → found_of_row i (xs ++ ys) ≡ found_of_row i ys
skip_above i n [] ys le h = refl
skip_above i n (x ∷ xs) ys le h =
    let low = h.0 in
    let other : (x.row == i) ≡ false = ne_eqb x.row i (λ e. omega (arith, e, low, le)) in
    rw other (skip_above i n xs ys le h.1)

leave_below : (i n : ℕ) (xs ys : List RowMatches) → i < n → Ascend n ys → found_of_row i (xs ++ ys) ≡ found_of_row i xs
leave_below i n [] ys lt h = none_later i n ys lt h
leave_below i n (x ∷ xs) ys lt h = elim (cases_Bool (x.row == i)) [
  | inl same ↦ rw same refl
  | inr other ↦ rw other (leave_below i n xs ys lt h)
]

-- the lines that rows are of tell what is found in the rows
pub found_of_lines : (re : Re) (wrap : Wrap) (ls : List (List ℕ)) (start end a b : ℕ) → start < end → IsLineOfRow (first_rows wrap 0 ls) start a → IsLineOfRow (first_rows wrap 0 ls) (end - 1) b → a ≤ b
    → (i : ℕ) → start ≤ i → i < end → found_of_row i (between re wrap ls a (b + 1)) ≡ found_of_row i (finds_in_lines re wrap 0 ls)
found_of_lines re wrap ls start end a b some is_a is_b le i from to =
    let size = length-first_rows wrap 0 ls in
    let in_a : a < length ls = (let w = is_a.within in omega (arith, w, size)) in
    let in_b : b < length ls = (let w = is_b.within in omega (arith, w, size)) in
    let first_a = get_or (first_rows wrap 0 ls) a 0 in
    let first_b = first_a + length (rows_of_lines wrap (take ((b + 1) - a) (drop a ls))) in
    let up : a ≤ b + 1 = omega (arith, le) in
    let low : first_a ≤ i = elim (cases_lt 0 a) [
      | inl down ↦ let at = is_a.begins down in omega (arith, at, from)
      | inr top ↦ let z : a ≡ 0 = omega (arith, top) in (let f = first_is wrap 0 a ls in_a in let n : length (rows_of_lines wrap (take a ls)) ≡ 0 = rw z refl in omega (arith, f, n))
    ] in
    let split = split_found re wrap ls a (b + 1) up in_a in
    let upper = upper_below re wrap ls a (b + 1) up in_a in
    let middle = between re wrap ls a (b + 1) in
    let lower = finds_in_lines re wrap first_b (drop (b + 1) ls) in
    let last : found_of_row i (middle ++ lower) ≡ found_of_row i middle = elim (cases_lt (b + 1) (length ls)) [
      | inl more ↦
          let at = first_on wrap ls a (b + 1) up more in
          let ends = is_b.ends (omega (arith, more, size)) in
          leave_below i first_b middle lower (omega (arith, at, ends, to)) (lower_above re wrap ls a (b + 1) up in_a)
      | inr all ↦
          let none : drop (b + 1) ls ≡ [] = drop_all (b + 1) ls (omega (arith, all)) in
          ap (λ l. found_of_row i (middle ++ finds_in_lines re wrap first_b l)) none ∙ ap (found_of_row i) (append-nil middle)
    ] in
    sym (ap (found_of_row i) split ∙ skip_above i first_a (finds_in_lines re wrap 0 (take a ls)) (middle ++ lower) low upper ∙ last)

-- ---- a search that ends early

pub more_between : (re : Re) (wrap : Wrap) (ls : List (List ℕ)) (start i end : ℕ) → start ≤ i → i ≤ end → (more : List RowMatches) × (between re wrap ls start end ≡ between re wrap ls start i ++ more)
more_between re wrap ls start i end from to =
    let n = get_or (first_rows wrap 0 ls) start 0 in
    let size : end - start ≡ (i - start) + (end - i) = omega (arith, from, to) in
    let some = take (i - start) (drop start ls) in
    let rest = take (end - i) (drop (i - start) (drop start ls)) in (
      finds_in_lines re wrap (n + length (rows_of_lines wrap some)) rest,
      ap (finds_in_lines re wrap n) (ap (λ k. take k (drop start ls)) size ∙ take_on (i - start) (end - i) (drop start ls)) ∙ finds_append re wrap n some rest,
    )

pub no_lines : (wrap : Wrap) (ls : List (List ℕ)) → first_rows wrap 0 ls ≡ [] → ls ≡ []
no_lines wrap [] e = refl
no_lines wrap (l ∷ ls) e = absurd cc

-- ---- a line stands not behind its row

each_a_row : (wrap : Wrap) (ls : List (List ℕ)) → length ls ≤ length (rows_of_lines wrap ls)
each_a_row wrap [] = omega arith
each_a_row wrap (l ∷ ls) = omega (arith, own_rows-some wrap l, each_a_row wrap ls, length-append (own_rows wrap l) (rows_of_lines wrap ls))

pub line_up_to : (wrap : Wrap) (ls : List (List ℕ)) (row line : ℕ) → IsLineOfRow (first_rows wrap 0 ls) row line → line ≤ row
line_up_to wrap ls row line is = elim (cases_lt 0 line) [
  | inl down ↦
      let within = is.within in
      let lt : line < length ls = omega (arith, within, length-first_rows wrap 0 ls) in
      let begins = is.begins down in
      omega (arith, begins, first_is wrap 0 line ls lt, each_a_row wrap (take line ls), length-take-le line ls (omega (arith, lt)))
  | inr top ↦ omega (arith, top)
]

pub lines_in_order : (wrap : Wrap) (ls : List (List ℕ)) (start end a b : ℕ) → start ≤ end → IsLineOfRow (first_rows wrap 0 ls) start a → IsLineOfRow (first_rows wrap 0 ls) end b → a ≤ b
lines_in_order wrap ls start end a b le is_a is_b = elim (cases_lt b a) [
  | inl over ↦
      let firsts = first_rows wrap 0 ls in
      let in_a = is_a.within in
      let begins = is_a.begins (omega (arith, over)) in
      let ends = is_b.ends (omega (arith, over, in_a)) in
      let up = ascends_to firsts (first_rows-ascend wrap 0 ls) (b + 1) a (omega (arith, over)) in_a in
      absurd (omega (arith, begins, ends, up, le))
  | inr good ↦ omega (arith, good)
]

-- ---- what loops over lines end with

pub up_to_end : (re : Re) (wrap : Wrap) (ls : List (List ℕ)) (start end i last size : ℕ) → last ≡ min end size → size ≡ length ls → start ≤ i → last ≤ i → i ≤ end
    → between re wrap ls start i ≡ between re wrap ls start end
up_to_end re wrap ls start end i last size is all from past to = elim (cases_lt i (length ls)) [
  | inl in_lines ↦
      let low : min end size ≤ i = omega (arith, is, past) in
      let same : i ≡ end = elim (cases_lt end size) [
        | inl short ↦ let m : min end size ≡ end = min-eq_left (omega (arith, short)) in omega (arith, m, low, to)
        | inr long ↦ let m : min end size ≡ size = min-eq_right long in absurd (omega (arith, m, low, all, in_lines))
      ] in
      ap (between re wrap ls start) same
  | inr over ↦ up_to_last re wrap ls start end i (omega (arith, from, to)) over to
]

-- ---- alike lines

pub found_alike : (re : Re) (w v : Wrap) (n m : ℕ) (t s : List ℕ) → w ≡ v → n ≡ m → t ≡ s → finds_in_lines re w n (lines_of (cut t)) ≡ finds_in_lines re v m (lines s)
found_alike re w v n m t s a b e = ap₂ (λ x k. finds_in_lines re x k (lines_of (cut t))) a b ∙ ap (finds_in_lines re v m) (ap (λ x. lines_of (cut x)) e ∙ sym (lines-cut s))

pub stands_alike : (re : Re) (w v : Wrap) (n m : ℕ) (t s : List ℕ) → w ≡ v → n ≡ m → t ≡ s → AreFoundIn n (rows_of_lines w (lines_of (cut t))) (finds_in_lines re w n (lines_of (cut t)))
    → AreFoundIn m (rows_of_lines v (lines s)) (finds_in_lines re v m (lines s))
stands_alike re w v n m t s a b e h =
    let same : lines_of (cut t) ≡ lines s = ap (λ x. lines_of (cut x)) e ∙ sym (lines-cut s) in
    subst (λ x. AreFoundIn m (rows_of_lines v x) (finds_in_lines re v m x)) same (subst₂ (λ x k. AreFoundIn k (rows_of_lines x (lines_of (cut t))) (finds_in_lines re x k (lines_of (cut t)))) a b h)
