-- The first row in which something is found.
use Rattle.std.proofs.Common.{inl, inr, ◌≡◌, ℕ, zero, suc, ◌+◌, ◌-◌, ◌<◌, ◌≤◌, Bool, true, false, nat_le, nat_lt, eqb, List, [], ◌∷◌, ◌++◌, length, map, take, drop, Option, None, Some, option_map, refl, sym, ap, ◌∙◌, append_assoc, arith}
use Rattle.std.specs.List.{slice_get, position_or_len}
use Rattle.std.specs.Option.{unwrap_or, is_some}
use Rattle.std.proofs.lemmas.Bool.{cases_Bool, ne_eqb}
use Rattle.std.proofs.lemmas.Bool.Decides.{nat_tests}
use Rattle.std.proofs.lemmas.List.{append-nil, take_all, length-drop}
use Rattle.std.proofs.lemmas.Option.{slice_get_within}
use Rattle.regex.specs.Patterns.{Re}
use Rattle.minus_text.specs.Highlight.{line_matches}
use Rattle.minus_text.specs.Found.{RowMatches, found_in_row, found_in_rows, jump_rows, Ascend}
use Rattle.minus_text.specs.FoundBy.{found_in_some}
use Rattle.minus_text.specs.Matches.{counts_first, match_at}
use Rattle.minus_text.proofs.FoundInLaws.{rows_ascend}
use Rattle.minus_text.proofs.LineLaws.{all_jumps}
use Rattle.minus_text.proofs.FoundRangeLaws.{get_dropped, one_more_from}

-- the rows that were found: of a search in rows jumps go to all of them
abbrev row_numbers : List RowMatches → List ℕ
row_numbers found = map (λ f. f.row) found

of_jumps : (re : Re) (n : ℕ) (rows : List (List ℕ)) → slice_get (row_numbers (found_in_rows re n rows)) 0 ≡ slice_get (jump_rows (found_in_rows re n rows)) 0
of_jumps re n rows = ap (λ l. slice_get l 0) (sym (all_jumps re n rows))

-- ---- the first of some rows

-- the first row that matches among rows of which none above it does
hit_at : (re : Re) (k n m : ℕ) (rows : List (List ℕ)) (row : List ℕ) → [] ≡ found_in_rows re n (take k rows) → slice_get rows k ≡ Some row → k < m → line_matches re row ≡ true →
    Some (n + k) ≡ slice_get (row_numbers (found_in_rows re n (take m rows))) 0
hit_at re k n m [] row none e lt hit = absurd cc
hit_at re k n zero (x ∷ xs) row none e lt hit = absurd (omega (arith, lt))
hit_at re zero n (suc m) (x ∷ xs) row none e lt hit =
    let same : x ≡ row = cc in
    let here : n + 0 ≡ n = omega arith in
    rw (same, here, hit) refl
hit_at re (suc k) n (suc m) (x ∷ xs) row none e lt hit =
    let next : n + suc k ≡ (n + 1) + k = omega arith in
    elim (cases_Bool (line_matches re x)) [
      | inl found ↦ let bad = rw found at none in absurd cc
      | inr miss ↦ rw (next, miss) (hit_at re k (n + 1) m xs row (rw miss at none) e (omega (arith, lt)) hit)
    ]

pub first_hit : (re : Re) (start end i : ℕ) (rows : List (List ℕ)) (row : List ℕ) → start ≤ i → i < end → [] ≡ found_in_rows re start (take (i - start) (drop start rows)) → slice_get rows i ≡ Some row → line_matches re row ≡ true →
    Some i ≡ slice_get (jump_rows (found_in_rows re start (take (end - start) (drop start rows)))) 0
first_hit re start end i rows row from to none here hit =
    let at : i ≡ start + (i - start) = omega (arith, from) in
    let within : i - start < end - start = omega (arith, from, to) in
    ap (λ k. Some k) at ∙ hit_at re (i - start) start (end - start) (drop start rows) row none (get_dropped rows start i from ∙ here) within hit
    ∙ of_jumps re start (take (end - start) (drop start rows))

-- a row more that does not match
pub still_none : (re : Re) (start i : ℕ) (rows : List (List ℕ)) (row : List ℕ) → start ≤ i → i < length rows → [] ≡ found_in_rows re start (take (i - start) (drop start rows)) → slice_get rows i ≡ Some row → line_matches re row ≡ false →
    [] ≡ found_in_rows re start (take ((i + 1) - start) (drop start rows))
still_none re start i rows row from more none here miss =
    let nothing : [] ≡ [] ++ found_in_some re i (Some row) = rw miss refl in
    one_more_from re start i rows [] [] (Some row) from more none (sym here) nothing

-- ---- those above a mark, and those from it on

split_at : (re : Re) (k m n : ℕ) (rows : List (List ℕ)) → n ≡ m + k → found_in_rows re m rows ≡ found_in_rows re m (take k rows) ++ found_in_rows re n (drop k rows)
split_at re zero m n rows e = let same : m ≡ n = omega (arith, e) in ap (λ j. found_in_rows re j rows) same
split_at re (suc k) m n [] e = refl
split_at re (suc k) m n (row ∷ rows) e =
    let later = split_at re k (m + 1) n rows (omega (arith, e)) in
    ap (λ l. found_in_row re m row ++ l) later ∙ sym (append_assoc (found_in_row re m row) (found_in_rows re (m + 1) (take k rows)) (found_in_rows re n (drop k rows)))

abbrev Under : ℕ → List RowMatches → Type 0
Under m [] = Unit {0}
Under m (f ∷ fs) = (f.row < m) × Under m fs

front_under : (re : Re) (k m n : ℕ) (rows : List (List ℕ)) → n ≡ m + k → Under n (found_in_rows re m (take k rows))
front_under re zero m n rows e = tt
front_under re (suc k) m n [] e = tt
front_under re (suc k) m n (row ∷ rows) e =
    let later = front_under re k (m + 1) n rows (omega (arith, e)) in
    elim (cases_Bool (line_matches re row)) [
      | inl hit ↦ rw hit (omega (arith, e), later)
      | inr miss ↦ rw miss later
    ]

passes : (mark : ℕ) (fs gs : List RowMatches) → Under mark fs → position_or_len (counts_first mark 0) (row_numbers (fs ++ gs)) ≡ length fs + position_or_len (counts_first mark 0) (row_numbers gs)
passes mark [] gs h = omega arith
passes mark (f ∷ fs) gs h =
    let under : nat_le mark f.row ≡ false = grind (arith, h.0) in
    let later = passes mark fs gs h.1 in
    rw under (omega (arith, later))

at_seam : (fs gs : List RowMatches) (g : RowMatches) → slice_get (row_numbers (fs ++ g ∷ gs)) (length fs) ≡ Some g.row
at_seam [] gs g = refl
at_seam (f ∷ fs) gs g = at_seam fs gs g

size_of : (fs : List RowMatches) → length (row_numbers fs) ≡ length fs
size_of [] = refl
size_of (f ∷ fs) = ap (λ n. suc n) (size_of fs)

-- where none counts the search goes to the first of all
pub none_counts : (ns : List ℕ) (mark : ℕ) → position_or_len (counts_first mark 0) ns ≡ length ns → match_at ns mark ≡ slice_get ns 0
none_counts ns mark e =
    let past : nat_lt (position_or_len (counts_first mark 0) ns) (length ns) ≡ false = grind (arith, nat_tests, e) in
    elim (cases_Bool (eqb (length ns) 0)) [ inl z ↦ rw (past, z) refl | inr s ↦ rw (past, s) refl ]

pub one_counts : (ns : List ℕ) (mark k n : ℕ) → position_or_len (counts_first mark 0) ns ≡ k → slice_get ns k ≡ Some n → match_at ns mark ≡ Some n
one_counts ns mark k n e here =
    let lt = slice_get_within ns k n here in
    let within : nat_lt (position_or_len (counts_first mark 0) ns) (length ns) ≡ true = grind (arith, nat_tests, e, lt) in
    let some : eqb (length ns) 0 ≡ false = ne_eqb (length ns) 0 (λ z. omega (arith, z, lt)) in
    rw (within, some) (ap (slice_get ns) e ∙ here)

goes_behind : (mark n : ℕ) (fs gs : List RowMatches) → Under mark fs → Ascend mark gs → slice_get (row_numbers gs) 0 ≡ Some n → match_at (row_numbers (fs ++ gs)) mark ≡ Some n
goes_behind mark n fs [] h up e = absurd cc
goes_behind mark n fs (g ∷ gs) h up e =
    let here : nat_le mark g.row ≡ true = grind (arith, up.0) in
    let first : position_or_len (counts_first mark 0) (row_numbers (g ∷ gs)) ≡ 0 = rw here refl in
    let at : position_or_len (counts_first mark 0) (row_numbers (fs ++ g ∷ gs)) ≡ length fs = omega (arith, passes mark fs (g ∷ gs) h, first) in
    one_counts (row_numbers (fs ++ g ∷ gs)) mark (length fs) n at (at_seam fs gs g ∙ e)

goes_above : (mark : ℕ) (fs gs : List RowMatches) → Under mark fs → slice_get (row_numbers gs) 0 ≡ None → match_at (row_numbers (fs ++ gs)) mark ≡ slice_get (row_numbers fs) 0
goes_above mark fs [] h e =
    let all : fs ++ [] ≡ fs = append-nil fs in
    let at : position_or_len (counts_first mark 0) (row_numbers (fs ++ [])) ≡ length (row_numbers (fs ++ [])) = passes mark fs [] h ∙ omega (arith, size_of (fs ++ []), ap length all) in
    none_counts (row_numbers (fs ++ [])) mark at ∙ ap (λ l. slice_get (row_numbers l) 0) all
goes_above mark fs (g ∷ gs) h e = absurd cc

module _ (re : Re) (mark size : ℕ) (rows : List (List ℕ)) (all : size ≡ length rows) (behind : Option ℕ) (is : behind ≡ slice_get (row_numbers (found_in_rows re mark (take (size - mark) (drop mark rows)))) 0) where
  its_split : found_in_rows re 0 rows ≡ found_in_rows re 0 (take mark rows) ++ found_in_rows re mark (drop mark rows)
  its_split = split_at re mark 0 mark rows (omega arith)

  its_end : take (size - mark) (drop mark rows) ≡ drop mark rows
  its_end = take_all (size - mark) (drop mark rows) (omega (arith, all, length-drop mark rows))

  its_head : slice_get (row_numbers (found_in_rows re mark (drop mark rows))) 0 ≡ behind
  its_head = ap (λ l. slice_get (row_numbers (found_in_rows re mark l)) 0) (sym its_end) ∙ sym is

  to_behind : (n : ℕ) → behind ≡ Some n → behind ≡ match_at (row_numbers (found_in_rows re 0 rows)) mark
  to_behind n e =
      let under = front_under re mark 0 mark rows (omega arith) in
      e
      ∙ sym (goes_behind mark n (found_in_rows re 0 (take mark rows)) (found_in_rows re mark (drop mark rows)) under (rows_ascend re mark (drop mark rows)) (its_head ∙ e))
      ∙ ap (λ l. match_at (row_numbers l) mark) (sym its_split)

  to_above : (above : Option ℕ) → behind ≡ None → above ≡ slice_get (row_numbers (found_in_rows re 0 (take (mark - 0) (drop 0 rows)))) 0 → above ≡ match_at (row_numbers (found_in_rows re 0 rows)) mark
  to_above above e first =
      let under = front_under re mark 0 mark rows (omega arith) in
      let same : mark - 0 ≡ mark = omega arith in
      first
      ∙ ap (λ k. slice_get (row_numbers (found_in_rows re 0 (take k rows))) 0) same
      ∙ sym (goes_above mark (found_in_rows re 0 (take mark rows)) (found_in_rows re mark (drop mark rows)) under (its_head ∙ e))
      ∙ ap (λ l. match_at (row_numbers l) mark) (sym its_split)

-- a search goes to the first row behind the mark that matches, if there is one
pub where_behind : (re : Re) (mark size : ℕ) (rows : List (List ℕ)) (behind : Option ℕ) → size ≡ length rows → behind ≡ slice_get (jump_rows (found_in_rows re mark (take (size - mark) (drop mark rows)))) 0 → is_some behind ≡ true →
    behind ≡ match_at (jump_rows (found_in_rows re 0 rows)) mark
where_behind re mark size rows None all is some = absurd cc
where_behind re mark size rows (Some n) all is some =
    to_behind re mark size rows all (Some n) (is ∙ sym (of_jumps re mark (take (size - mark) (drop mark rows)))) n refl
    ∙ ap (λ l. match_at l mark) (sym (all_jumps re 0 rows))

-- and else to the first of those above the mark
pub where_above : (re : Re) (mark size : ℕ) (rows : List (List ℕ)) (behind above : Option ℕ) → size ≡ length rows → behind ≡ slice_get (jump_rows (found_in_rows re mark (take (size - mark) (drop mark rows)))) 0 → is_some behind ≡ false
    → above ≡ slice_get (jump_rows (found_in_rows re 0 (take (mark - 0) (drop 0 rows)))) 0 → above ≡ match_at (jump_rows (found_in_rows re 0 rows)) mark
where_above re mark size rows None above all is none first =
    to_above re mark size rows all None (is ∙ sym (of_jumps re mark (take (size - mark) (drop mark rows)))) above refl (first ∙ sym (of_jumps re 0 (take (mark - 0) (drop 0 rows))))
    ∙ ap (λ l. match_at l mark) (sym (all_jumps re 0 rows))
where_above re mark size rows (Some n) above all is none first = absurd cc

-- what a row that there is is told to be
pub told_of : {R : Type 0} (now : R → List ℕ) (re : Re) (o : Option R) (row : List ℕ) (b : Bool) → option_map now o ≡ Some row → b ≡ unwrap_or (option_map (λ r. line_matches re (now r)) o) false → line_matches re row ≡ b
told_of now re None row b is e = absurd cc
told_of now re (Some r) row b is e = let same : row ≡ now r = cc in ap (line_matches re) same ∙ sym e
