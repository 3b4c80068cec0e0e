-- A line that is its one row, rows that match, and a line that is formed again.
use Rattle.std.proofs.Common.{inl, inr, ◌≡◌, ℕ, suc, ◌+◌, ◌-◌, ◌<◌, ◌==◌, not, true, false, nat_le, nat_lt, min, max, List, [], ◌∷◌, ◌++◌, length, map, drop, slice_range, Option, None, Some, refl, sym, ap, ap₂, ◌∙◌, arith, length-append}
use Rattle.std.specs.List.{All}
use Rattle.std.proofs.lemmas.Bool.{cases_Bool}
use Rattle.std.proofs.lemmas.List.{append-nil, length-drop, length-take-le}
use Rattle.std.proofs.lemmas.Str.{IsCharBoundary-start}
use Rattle.minus_text.specs.FixedPatterns.{escape_sequence}
use Rattle.minus_text.specs.Escapes.{outside, stripped, escape_places}
use Rattle.minus_text.specs.Highlight.{line_matches, line_match_places}
use Rattle.minus_text.specs.Fragments.{Fragment, rows_in}
use Rattle.minus_text.specs.Found.{RowMatches, found_by, jump_rows}
use Rattle.minus_text.specs.Finds.{found_in}
use Rattle.regex.specs.Patterns.{Re}
use Rattle.minus_text.specs.LineFinds.{outside_before, between, Stretch, parts_in, begin_count, if_some}
use Rattle.minus_text.specs.Kept.{GoesOn, open_stored, line_stored}
use Rattle.std.specs.Str.{IsUtf8}
use Rattle.std.specs.Str.Lines.{strip_carriage_return}
use Rattle.minus_text.specs.declared.layout.Wrap.{Wrap}
use Rattle.minus_text.specs.LineLaws.{UnwrappedLinesAreRows, JumpsGoToAllRows, LinesFormAgain}
use Rattle.minus_text.proofs.FoundLaws.{matches_where_some}
use Rattle.minus_text.proofs.LineFindsLaws.{outside_at_start}
use Rattle.minus_text.proofs.MatchPlacesLaws.{LieIn, places_lie}

-- ---- a line that is its one row

all_outside : (line : List ℕ) (at : ℕ) (ps : List (ℕ × ℕ)) → LieIn (length line) at ps → outside_before at ps (length line) ≡ length (outside line at ps)
all_outside line at [] h = sym (length-drop at line)
all_outside line at (p ∷ ps) h =
    let up = h.0 in
    let over = h.1 in
    let few = h.2 in
    let front : length (slice_range line at p.0) ≡ p.0 - at = length-take-le (p.0 - at) (drop at line) (omega (arith, length-drop at line, over, few)) in
    omega (arith, all_outside line p.1 ps h.3, front, length-append (slice_range line at p.0) (outside line p.1 ps), over, few)

all_between : (end at : ℕ) (ps : List (ℕ × ℕ)) → LieIn end at ps → All (λ p. p.0 < p.1) ps → between 0 end ps ≡ ps
all_between end at [] h some = refl
all_between end at (p ∷ ps) h some =
    let over : p.0 < p.1 = some 0 (0, 0) (omega arith) in
    let few = h.2 in
    let starts : nat_lt p.0 end ≡ true = grind (arith, over, few) in
    let ends : nat_lt 0 p.1 ≡ true = grind (arith, over) in
    let a : max 0 p.0 - 0 ≡ p.0 = omega arith in
    let b : min end p.1 - 0 ≡ p.1 = omega (arith, few) in
    rw (starts, ends) (ap₂ (λ (x y : ℕ). (x, y) ∷ between 0 end ps) a b ∙ ap (λ l. p ∷ l) (all_between end p.1 ps h.3 (λ k d lt. some (suc k) d (omega (arith, lt)))))

all_parts : (end at : ℕ) (ms : List (ℕ × ℕ)) → LieIn end at ms → (parts_in (record { start = 0; end = end; next = None }) ms ≡ ms) × (begin_count (record { start = 0; end = end; next = None }) ms ≡ length ms)
all_parts end at [] h = (refl, refl)
all_parts end at (m ∷ ms) h =
    let over = h.1 in
    let few = h.2 in
    let hit : nat_le 0 m.0 ≡ true = grind arith in
    let a : min m.0 end - 0 ≡ m.0 = omega (arith, over, few) in
    let b : min m.1 end - 0 ≡ m.1 = omega (arith, few) in
    let more = all_parts end m.1 ms h.3 in
    let r : Stretch = record { start = 0; end = end; next = None } in
    (rw hit (ap₂ (λ (x y : ℕ). (x, y) ∷ parts_in r ms) a b ∙ ap (λ l. m ∷ l) more.0), rw hit (omega (arith, more.1)))

pub unwrapped : UnwrappedLinesAreRows
unfolding stripped
unwrapped re n line some =
    let es = escape_places line in
    let text = outside line 0 es in
    let ms = line_match_places re line in
    let start : outside_before 0 es 0 ≡ 0 = outside_at_start es 0 in
    let end : outside_before 0 es (length line) ≡ length text = all_outside line 0 es (places_lie escape_sequence line) in
    let shown : ℕ → ℕ → List RowMatches = λ a b.
    let r : Stretch = record { start = a; end = b; next = None } in
    if_some (record { row = n; escapes = between 0 (length line) es; matches = parts_in r ms; begins = begin_count r ms }) in
    let one : List (ℕ × ℕ) → List (ℕ × ℕ) → ℕ → List RowMatches = λ e p k. if_some (record { row = n; escapes = e; matches = p; begins = k }) in
    let parts = all_parts (length text) 0 ms (places_lie re text) in
    let inner = all_between (length line) 0 es (places_lie escape_sequence line) some in
    append-nil (shown (outside_before 0 es 0) (outside_before 0 es (length line)))
    ∙ ap₂ shown start end
    ∙ ap₂ (λ e k. one e (parts_in (record { start = 0; end = length text; next = None }) ms) k) inner parts.1
    ∙ ap (λ p. one es p (length ms)) parts.0
    ∙ elim (cases_Bool (length ms == 0)) [
      | inl none ↦ let no_match : line_matches re line ≡ false = matches_where_some re line ∙ ap not none in rw (none, no_match) refl
      | inr found ↦ let match_there : line_matches re line ≡ true = matches_where_some re line ∙ ap not found in rw (found, match_there) refl
    ]

pub all_jumps : JumpsGoToAllRows
all_jumps re n [] = refl
all_jumps re n (row ∷ rows) =
    let ms = line_match_places re row in
    elim (cases_Bool (length ms == 0)) [
      | inl none ↦ let no_match : line_matches re row ≡ false = matches_where_some re row ∙ ap not none in rw no_match (all_jumps re (n + 1) rows)
      | inr found ↦ let match_there : line_matches re row ≡ true = matches_where_some re row ∙ ap not found in rw (match_there, found) (ap (λ l. n ∷ l) (all_jumps re (n + 1) rows))
    ]

-- the rows that match are told where a text is searched row by row
pub told_rows : (term : Option Re) (n : ℕ) (f : Fragment) → jump_rows (found_in term false n f) ≡ map (λ r. r.row) (found_by term n (rows_in f))
told_rows None n f = refl
told_rows (Some re) n f = all_jumps re n (rows_in f)

-- a line goes on from its start
pub goes_on_again : (wrap : Wrap) (line : List ℕ) → IsUtf8 line → GoesOn wrap line 0 0
goes_on_again wrap line utf8 = record {
  boundary = IsCharBoundary-start line utf8;
  few = omega arith;
  some_left = λ some. some;
  open_go_on = λ more u. refl;
  ended_go_on = λ more u. refl;
  open_places = λ n more u. let z : n ≡ n + 0 = omega arith in ap (λ k. open_stored wrap k (line ++ more)) z;
  ended_places = λ n more u. let z : n ≡ n + 0 = omega arith in ap (λ k. line_stored wrap k (strip_carriage_return (line ++ more))) z;
}

pub form_again : LinesFormAgain
form_again wrap line finished border utf8 one measured = record {
  text = utf8;
  one_line = one;
  goes_on = goes_on_again wrap line utf8;
  measured = measured;
  behind = omega arith;
}
