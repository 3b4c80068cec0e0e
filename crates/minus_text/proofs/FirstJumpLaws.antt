-- The first row that jumps go to, in some of the lines of a text and in all of them.
use Rattle.std.proofs.Common.{inl, inr, ◌≡◌, ℕ, suc, ◌+◌, ◌-◌, ◌<◌, ◌≤◌, ◌==◌, true, false, nat_le, List, [], ◌∷◌, ◌++◌, length, map, take, drop, get_or, Option, None, Some, refl, sym, ap, ◌∙◌, arith}
use Rattle.std.specs.List.{slice_get, position_or_len}
use Rattle.std.specs.Option.{is_some}
use Rattle.std.proofs.lemmas.Bool.{cases_Bool, cases_lt, eq-eqb}
use Rattle.std.proofs.lemmas.Bool.Decides.{nat_tests}
use Rattle.std.proofs.lemmas.List.{append-nil, map-append, take_more, take-append-drop}
use Rattle.regex.specs.Patterns.{Re}
use Rattle.minus_text.specs.declared.layout.Wrap.{Wrap}
use Rattle.minus_text.specs.declared.search.found.FoundRow.{FoundRow}
use Rattle.minus_text.specs.FoundRows.{matches_of}
use Rattle.minus_text.specs.Document.{first_rows, rows_of_lines}
use Rattle.minus_text.specs.Found.{RowMatches, jump_rows, Ascend}
use Rattle.minus_text.specs.LineFinds.{finds_in_line, finds_in_lines}
use Rattle.minus_text.specs.LineMaps.{IsLineOfRow}
use Rattle.minus_text.specs.Matches.{counts_first, match_at}
use Rattle.minus_text.specs.StoredLines.{first_from}
use Rattle.minus_text.proofs.DocumentLaws.{length-first_rows}
use Rattle.minus_text.proofs.FirstFoundLaws.{none_counts, one_counts}
use Rattle.minus_text.proofs.JumpLaws.{jumps_both}
use Rattle.minus_text.proofs.StoredLineLaws.{first_is}
use Rattle.minus_text.proofs.FindsLaws.{Below}
use Rattle.minus_text.proofs.LineRangeLaws.{between, first_on, one_more_line, upper, middle, lower, first_b, split_found, upper_below, lower_above, drop_all, more_between}

-- ---- the first row from one on that jumps go to

pub first_front : (row n : ℕ) (xs ys : List ℕ) → first_from row xs ≡ Some n → first_from row (xs ++ ys) ≡ Some n
first_front row n [] ys e = absurd cc
first_front row n (x ∷ xs) ys e = elim (cases_Bool (nat_le row x)) [
  | inl t ↦ rw t (rw t at e)
  | inr f ↦ rw f (first_front row n xs ys (rw f at e))
]

pub first_past : (row : ℕ) (xs ys : List ℕ) → first_from row xs ≡ None → first_from row (xs ++ ys) ≡ first_from row ys
first_past row [] ys e = refl
first_past row (x ∷ xs) ys e = elim (cases_Bool (nat_le row x)) [
  | inl t ↦ let bad = rw t at e in absurd cc
  | inr f ↦ rw f (first_past row xs ys (rw f at e))
]

none_behind : (row : ℕ) (xs ys : List ℕ) → first_from row (xs ++ ys) ≡ None → first_from row ys ≡ None
none_behind row [] ys e = e
none_behind row (x ∷ xs) ys e = elim (cases_Bool (nat_le row x)) [
  | inl t ↦ let bad = rw t at e in absurd cc
  | inr f ↦ none_behind row xs ys (rw f at e)
]

first_at : (row n : ℕ) (ns : List ℕ) → first_from row ns ≡ Some n → (k : ℕ) × (position_or_len (counts_first row 0) ns ≡ k) × (slice_get ns k ≡ Some n)
first_at row n [] e = absurd cc
first_at row n (x ∷ xs) e = elim (cases_Bool (nat_le row x)) [
  | inl t ↦ let here : Some x ≡ Some n = rw t at e in (0, rw t refl, here)
  | inr f ↦ let more = first_at row n xs (rw f at e) in (suc more.0, rw f (omega (arith, more.1)), more.2)
]

none_at : (row : ℕ) (ns : List ℕ) → first_from row ns ≡ None → position_or_len (counts_first row 0) ns ≡ length ns
none_at row [] e = refl
none_at row (x ∷ xs) e = elim (cases_Bool (nat_le row x)) [
  | inl t ↦ let bad = rw t at e in absurd cc
  | inr f ↦ let more = none_at row xs (rw f at e) in rw f (omega (arith, more))
]

goes_to : (row n : ℕ) (ns : List ℕ) → first_from row ns ≡ Some n → match_at ns row ≡ Some n
goes_to row n ns e = let h = first_at row n ns e in one_counts ns row h.0 n h.1 h.2

goes_first : (row : ℕ) (ns : List ℕ) → first_from row ns ≡ None → match_at ns row ≡ slice_get ns 0
goes_first row ns e = none_counts ns row (none_at row ns e)

from_none : (ns : List ℕ) → first_from 0 ns ≡ slice_get ns 0
from_none [] = refl
from_none (n ∷ ns) = let t : nat_le 0 n ≡ true = grind (arith, nat_tests) in rw t refl

below_none : (m row : ℕ) (f : List RowMatches) → m ≤ row → Below m f → first_from row (jump_rows f) ≡ None
below_none m row [] le h = refl
below_none m row (r ∷ rs) le h = elim (cases_Bool (r.begins == 0)) [
  | inl none ↦ rw none (below_none m row rs le h.1)
  | inr some ↦
      let low = h.0 in
      let under : nat_le row r.row ≡ false = grind (arith, nat_tests, low, le) in
      rw (some, under) (below_none m row rs le h.1)
]

above_none : (m row : ℕ) (f : List RowMatches) → row ≤ m → Ascend m f → first_from row (jump_rows f) ≡ None → jump_rows f ≡ []
above_none m row [] le h e = refl
above_none m row (r ∷ rs) le h e = elim (cases_Bool (r.begins == 0)) [
  | inl none ↦ let low = h.0 in rw none (above_none (r.row + 1) row rs (omega (arith, low, le)) h.1 (rw none at e))
  | inr some ↦
      let low = h.0 in
      let over : nat_le row r.row ≡ true = grind (arith, nat_tests, low, le) in
      let bad = rw (some, over) at e in
      absurd cc
]

-- ---- the row that a search in lines from a mark goes to

module _ (re : Re) (wrap : Wrap) (ls : List (List ℕ)) (mark a count : ℕ) (is : IsLineOfRow (first_rows wrap 0 ls) mark a) (all : length ls ≤ count) where
  abbrev pub found_all : List RowMatches
  found_all = finds_in_lines re wrap 0 ls

  mark_line : a < length ls
  mark_line = let w = is.within in omega (arith, w, length-first_rows wrap 0 ls)

  line_above_mark : get_or (first_rows wrap 0 ls) a 0 ≤ mark
  line_above_mark = elim (cases_lt 0 a) [
    | inl down ↦ let at = is.begins down in at
    | inr top ↦
        let z : a ≡ 0 = omega (arith, top) in
        let f = first_is wrap 0 a ls mark_line in
        let n : length (rows_of_lines wrap (take a ls)) ≡ 0 = rw z refl in
        omega (arith, f, n)
  ]

  from_mark : first_from mark (jump_rows found_all) ≡ first_from mark (jump_rows (between re wrap ls a count))
  from_mark =
      let le : a ≤ count = omega (arith, mark_line, all) in
      let upper = finds_in_lines re wrap 0 (take a ls) in
      let middle = between re wrap ls a count in
      let first_b = get_or (first_rows wrap 0 ls) a 0 + length (rows_of_lines wrap (take (count - a) (drop a ls))) in
      let none : drop count ls ≡ [] = drop_all count ls all in
      let split : found_all ≡ upper ++ middle =
      split_found re wrap ls a count le mark_line ∙ ap (λ l. upper ++ (middle ++ finds_in_lines re wrap first_b l)) none ∙ ap (λ l. upper ++ l) (append-nil middle) in
      let past = below_none (get_or (first_rows wrap 0 ls) a 0) mark upper line_above_mark (upper_below re wrap ls a count le mark_line) in
      ap (λ l. first_from mark (jump_rows l)) split ∙ ap (first_from mark) (jumps_both upper middle) ∙ first_past mark (jump_rows upper) (jump_rows middle) past

  pub line_behind : (n : ℕ) → first_from mark (jump_rows (between re wrap ls a count)) ≡ Some n → match_at (jump_rows found_all) mark ≡ Some n
  line_behind n e = goes_to mark n (jump_rows found_all) (from_mark ∙ e)

  pub line_above : first_from mark (jump_rows (between re wrap ls a count)) ≡ None → match_at (jump_rows found_all) mark ≡ first_from 0 (jump_rows (between re wrap ls 0 (a + 1)))
  line_above e =
      let front = between re wrap ls 0 (a + 1) in
      let first_b = get_or (first_rows wrap 0 ls) 0 0 + length (rows_of_lines wrap (take ((a + 1) - 0) (drop 0 ls))) in
      let lower = finds_in_lines re wrap first_b (drop (a + 1) ls) in
      let some : 0 < length ls = omega (arith, mark_line) in
      let le : 0 ≤ a + 1 = omega arith in
      let split : found_all ≡ front ++ lower = split_found re wrap ls 0 (a + 1) le some in
      let jumps : jump_rows found_all ≡ jump_rows front ++ jump_rows lower = ap jump_rows split ∙ jumps_both front lower in
      let none : first_from mark (jump_rows lower) ≡ None = none_behind mark (jump_rows front) (jump_rows lower) (sym (ap (first_from mark) jumps) ∙ from_mark ∙ e) in
      let empty : jump_rows lower ≡ [] = elim (cases_lt (a + 1) (length ls)) [
        | inl more ↦
            let at = first_on wrap ls 0 (a + 1) le more in
            let ends = is.ends (omega (arith, more, length-first_rows wrap 0 ls)) in
            above_none first_b mark lower (omega (arith, at, ends)) (lower_above re wrap ls 0 (a + 1) le some) none
        | inr last ↦ ap (λ l. jump_rows (finds_in_lines re wrap first_b l)) (drop_all (a + 1) ls (omega (arith, last)))
      ] in
      goes_first mark (jump_rows found_all) (from_mark ∙ e)
      ∙ ap (λ l. slice_get l 0) (jumps ∙ ap (λ l. jump_rows front ++ l) empty ∙ append-nil (jump_rows front)) ∙ sym (from_none (jump_rows front))

pub still_nothing : (re : Re) (wrap : Wrap) (ls : List (List ℕ)) (start line row : ℕ) (first : Option ℕ) → start ≤ line → line < length ls
    → None ≡ first_from row (jump_rows (between re wrap ls start line)) → first ≡ first_from row (jump_rows (finds_in_line re wrap (get_or (first_rows wrap 0 ls) line 0) (get_or ls line [])))
    → first ≡ first_from row (jump_rows (between re wrap ls start (line + 1)))
still_nothing re wrap ls start line row first from there none is =
    let here = finds_in_line re wrap (get_or (first_rows wrap 0 ls) line 0) (get_or ls line []) in
    let above = between re wrap ls start line in
    is ∙ sym (ap (λ l. first_from row (jump_rows l)) (sym (one_more_line re wrap ls start line from there)) ∙ ap (first_from row) (jumps_both above here) ∙ first_past row (jump_rows above) (jump_rows here) (sym none))

pub early : (re : Re) (wrap : Wrap) (ls : List (List ℕ)) (start line end row : ℕ) (first : Option ℕ) → start ≤ line → line < length ls → line < end
    → first ≡ first_from row (jump_rows (between re wrap ls start (line + 1))) → is_some first ≡ true → first ≡ first_from row (jump_rows (between re wrap ls start end))
early re wrap ls start line end row None from there to is some = absurd cc
early re wrap ls start line end row (Some n) from there to is some =
    let above = between re wrap ls start (line + 1) in
    let more = more_between re wrap ls start (line + 1) end (omega (arith, from)) (omega (arith, to)) in
    sym (ap (λ l. first_from row (jump_rows l)) more.1 ∙ ap (first_from row) (jumps_both above more.0) ∙ first_front row n (jump_rows above) (jump_rows more.0) (sym is))

pub goes_behind : (re : Re) (wrap : Wrap) (ls : List (List ℕ)) (mark a count : ℕ) → IsLineOfRow (first_rows wrap 0 ls) mark a → length ls ≤ count → (behind : Option ℕ) → behind ≡ first_from mark (jump_rows (between re wrap ls a count)) → is_some behind ≡ true
    → behind ≡ match_at (jump_rows (finds_in_lines re wrap 0 ls)) mark
goes_behind re wrap ls mark a count is all None first some = absurd cc
goes_behind re wrap ls mark a count is all (Some n) first some = sym (line_behind re wrap ls mark a count is all n (sym first))

pub goes_above : (re : Re) (wrap : Wrap) (ls : List (List ℕ)) (mark a count : ℕ) → IsLineOfRow (first_rows wrap 0 ls) mark a → length ls ≤ count → (behind above : Option ℕ) → behind ≡ first_from mark (jump_rows (between re wrap ls a count)) → is_some behind ≡ false
    → above ≡ first_from 0 (jump_rows (between re wrap ls 0 (a + 1))) → above ≡ match_at (jump_rows (finds_in_lines re wrap 0 ls)) mark
goes_above re wrap ls mark a count is all None above first none up = up ∙ sym (line_above re wrap ls mark a count is all (sym first))
goes_above re wrap ls mark a count is all (Some n) above first none up = absurd cc

-- ---- the first jump of what was found

module _ (fs : List FoundRow) (i : ℕ) (f : FoundRow) (lt : i < length fs) (here : f ≡ get_or fs i f) (row : ℕ) (none : None ≡ first_from row (jump_rows (map matches_of (take i fs)))) where
  one_found : map matches_of (take (i + 1) fs) ≡ map matches_of (take i fs) ++ matches_of f ∷ []
  one_found = ap (map matches_of) (take_more fs i f lt ∙ ap (λ g. take i fs ++ g ∷ []) (sym here)) ∙ map-append matches_of (take i fs) (f ∷ [])

  past_one : first_from row (jump_rows (map matches_of (take (i + 1) fs))) ≡ first_from row (jump_rows (matches_of f ∷ []))
  past_one =
      ap (λ l. first_from row (jump_rows l)) one_found ∙ ap (first_from row) (jumps_both (map matches_of (take i fs)) (matches_of f ∷ []))
      ∙ first_past row (jump_rows (map matches_of (take i fs))) (jump_rows (matches_of f ∷ [])) (sym none)

  pub no_jump : f.begins ≡ 0 → None ≡ first_from row (jump_rows (map matches_of (take (i + 1) fs)))
  no_jump e =
      let it : (f.begins == 0) ≡ true = eq-eqb f.begins 0 e in
      let end : first_from row (jump_rows (matches_of f ∷ [])) ≡ None = rw it refl in
      sym (past_one ∙ end)

  pub jump_above : f.row < row → None ≡ first_from row (jump_rows (map matches_of (take (i + 1) fs)))
  jump_above low =
      let under : nat_le row f.row ≡ false = grind (arith, nat_tests, low) in
      let end : first_from row (jump_rows (matches_of f ∷ [])) ≡ None = elim (cases_Bool (f.begins == 0)) [
        | inl it ↦ rw it refl
        | inr some ↦ rw (some, under) refl
      ] in
      sym (past_one ∙ end)

  pub jump_here : 0 < f.begins → row ≤ f.row → Some f.row ≡ first_from row (jump_rows (map matches_of fs))
  jump_here some le =
      let it : (f.begins == 0) ≡ false = grind (arith, nat_tests, some) in
      let over : nat_le row f.row ≡ true = grind (arith, nat_tests, le) in
      let end : first_from row (jump_rows (matches_of f ∷ [])) ≡ Some f.row = rw (it, over) refl in
      let front = map matches_of (take (i + 1) fs) in
      let rest = map matches_of (drop (i + 1) fs) in
      let all : map matches_of fs ≡ front ++ rest = ap (map matches_of) (sym (take-append-drop (i + 1) fs)) ∙ map-append matches_of (take (i + 1) fs) (drop (i + 1) fs) in
      sym (ap (λ l. first_from row (jump_rows l)) all ∙ ap (first_from row) (jumps_both front rest) ∙ first_front row f.row (jump_rows front) (jump_rows rest) (past_one ∙ end))
