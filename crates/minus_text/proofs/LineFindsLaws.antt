-- What is found in the rows of a line: how many matches, and in which rows.
use Rattle.std.proofs.Common.{inl, inr, ◌≡◌, ℕ, ◌+◌, ◌<◌, ◌≤◌, ◌==◌, true, false, cond, nat_le, nat_lt, List, [], ◌∷◌, ◌++◌, length, None, Some, refl, ap, ◌∙◌, arith, chars}
use Rattle.std.specs.Str.{encode_utf8_all}
use Rattle.std.proofs.lemmas.Bool.{cases_Bool, cases_lt}
use Rattle.std.proofs.lemmas.List.{length-map}
use Rattle.std.proofs.lemmas.List.Sums.{sum_by-append, sum_by-cons}
use Rattle.minus_text.specs.declared.rows.Span.{Span}
use Rattle.minus_text.specs.declared.layout.Wrap.{Wrap}
use Rattle.minus_text.specs.declared.layout.Wrap.TheVariants.{At, Off}
use Rattle.minus_text.specs.Layouts.{own_rows, own_places}
use Rattle.minus_text.specs.Pieces.{Piece}
use Rattle.minus_text.specs.Rows.{line_places, line_rows, line_runs, places, row_text, run_text}
use Rattle.minus_text.proofs.RowsLaws.{line_rows-some}
use Rattle.minus_text.specs.Escapes.{escape_places}
use Rattle.minus_text.specs.Highlight.{line_match_places}
use Rattle.minus_text.specs.Found.{match_total, RowMatches}
use Rattle.minus_text.specs.LineFinds.{outside_before, between, Stretch, is_before, parts_in, begin_count, finds_in_row, finds_in_rows, finds_in_line, finds_in_lines, MatchTotalIsOfLines}

pub outside_grows : (at x y : ℕ) (ps : List (ℕ × ℕ)) → x ≤ y → outside_before at ps x ≤ outside_before at ps y
outside_grows at x y [] le = omega (arith, le)
outside_grows at x y (p ∷ ps) le = let more = outside_grows p.1 x y ps le in omega (arith, le, more)

-- the rows begin one behind another
abbrev pub Rise : ℕ → List Span → Type 0
Rise at [] = Unit {0}
Rise at (s ∷ ss) = (at ≤ s.start) × Rise s.start ss

-- how many matches begin at a place or behind it
from_count : ℕ → List (ℕ × ℕ) → ℕ
from_count f [] = 0
from_count f (m ∷ ms) = cond (nat_le f m.0) (from_count f ms + 1) (from_count f ms)

all_count : (ms : List (ℕ × ℕ)) → from_count 0 ms ≡ length ms
unfolding from_count
all_count [] = refl
all_count (m ∷ ms) = let hit : nat_le 0 m.0 ≡ true = grind arith in let more = all_count ms in rw hit (omega (arith, more))

last_count : (a b : ℕ) (ms : List (ℕ × ℕ)) → begin_count (record { start = a; end = b; next = None }) ms ≡ from_count a ms
unfolding from_count
last_count a b [] = refl
last_count a b (m ∷ ms) = let more = last_count a b ms in elim (cases_Bool (nat_le a m.0)) [
  | inl hit ↦ rw (hit, more) refl
  | inr miss ↦ rw miss more
]

split_count : (a b n : ℕ) (ms : List (ℕ × ℕ)) → a ≤ n → begin_count (record { start = a; end = b; next = Some n }) ms + from_count n ms ≡ from_count a ms
unfolding from_count
split_count a b n [] le = refl
split_count a b n (m ∷ ms) le =
    let more = split_count a b n ms le in
    elim (cases_lt m.0 n) [
      | inl lt ↦
          let before : nat_lt m.0 n ≡ true = grind (arith, lt) in
          let not_behind : nat_le n m.0 ≡ false = grind (arith, lt) in
          elim (cases_Bool (nat_le a m.0)) [
            | inl hit ↦ rw (hit, before, not_behind) (omega (arith, more))
            | inr miss ↦ rw (miss, not_behind) more
          ]
      | inr ge ↦
          let not_before : nat_lt m.0 n ≡ false = grind (arith, ge) in
          let behind : nat_le n m.0 ≡ true = grind (arith, ge) in
          let hit : nat_le a m.0 ≡ true = grind (arith, ge, le) in
          rw (hit, not_before, behind) (omega (arith, more))
    ]

begins_few : (r : Stretch) (ms : List (ℕ × ℕ)) → begin_count r ms ≤ length (parts_in r ms)
begins_few r [] = omega arith
begins_few r (m ∷ ms) =
    let more = begins_few r ms in
    elim (cases_Bool (nat_le r.start m.0)) [
      | inl hit ↦ elim (cases_Bool (is_before r.next m.0)) [
        | inl before ↦ rw (hit, before) (omega (arith, more))
        | inr behind ↦ rw (hit, behind) more
      ]
      | inr miss ↦ elim (cases_Bool (is_before r.next m.0)) [
        | inl before ↦ elim (cases_Bool (nat_lt r.start m.1)) [
          | inl on ↦ rw (miss, before, on) (omega (arith, more))
          | inr ended ↦ rw (miss, before, ended) more
        ]
        | inr behind ↦ rw (miss, behind) more
      ]
    ]

counted : (n : ℕ) (es ms : List (ℕ × ℕ)) (s : Span) (r : Stretch) → match_total (finds_in_row n es ms s r) ≡ begin_count r ms
counted n es ms s r = elim (cases_Bool (length (parts_in r ms) == 0)) [
  | inl none ↦ let few = begins_few r ms in rw none (grind (arith, none, few))
  | inr some ↦ rw some (sum_by-cons (λ (x : RowMatches). x.begins) (record { row = n; escapes = between s.start s.end es; matches = parts_in r ms; begins = begin_count r ms }) [] ∙ omega arith)
]

pub total_both : (a b : List RowMatches) → match_total (a ++ b) ≡ match_total a + match_total b
total_both a b = sum_by-append (λ (x : RowMatches). x.begins) a b

-- the rows of a line show all matches that begin behind the first
rows_total : (n : ℕ) (es ms : List (ℕ × ℕ)) (s : Span) (ss : List Span) → Rise s.start ss → match_total (finds_in_rows n es ms (s ∷ ss)) ≡ from_count (outside_before 0 es s.start) ms
rows_total n es ms s [] h =
    let r : Stretch = record { start = outside_before 0 es s.start; end = outside_before 0 es s.end; next = None } in
    total_both (finds_in_row n es ms s r) []
    ∙ ap (λ k. k + 0) (counted n es ms s r ∙ last_count r.start r.end ms) ∙ omega arith
rows_total n es ms s (t ∷ ts) h =
    let g = outside_before 0 es t.start in
    let r : Stretch = record { start = outside_before 0 es s.start; end = outside_before 0 es s.end; next = Some g } in
    let more = rows_total (n + 1) es ms t ts h.1 in
    let here = counted n es ms s r in
    let parts = split_count r.start r.end g ms (outside_grows 0 s.start t.start es h.0) in
    total_both (finds_in_row n es ms s r) (finds_in_rows (n + 1) es ms (t ∷ ts)) ∙ omega (arith, more, here, parts)

-- the rows of a line begin at its start, one behind another
pub record FromStart (ss : List Span) : Type 0 where
  pub first : Span
  pub more : List Span
  pub all : ss ≡ first ∷ more
  pub start : first.start ≡ 0
  pub rise : Rise 0 more

rise_from : (a b : ℕ) (ss : List Span) → a ≤ b → Rise b ss → Rise a ss
rise_from a b [] le h = tt
rise_from a b (s ∷ ss) le h = let up = h.0 in (omega (arith, le, up), h.1)

places_rise : (at : ℕ) (runs : List (List Piece)) → Rise at (places at runs)
places_rise at [] = tt
places_rise at (run ∷ runs) =
    let n = length (encode_utf8_all (run_text run)) in
    (omega arith, rise_from at (at + n) (places (at + n) runs) (omega arith) (places_rise (at + n) runs))

rise_at : (n : ℕ) (ss : List Span) → n ≡ 0 → Rise 0 ss → Rise n ss
rise_at n ss e h = rise_from n 0 ss (omega (arith, e)) h

runs_some : (cols : ℕ) (line : List ℕ) → (length (chars line) == 0) ≡ false → 0 < length (line_runs cols line)
unfolding line_rows
runs_some cols line e =
    let some : 0 < length (line_rows cols line) = line_rows-some cols line in
    let rows : length (line_rows cols line) ≡ length (line_runs cols line) = rw e (length-map (line_runs cols line) (λ run. encode_utf8_all (row_text run))) in
    omega (arith, some, rows)

runs_from_start : (runs : List (List Piece)) → 0 < length runs → FromStart (places 0 runs)
runs_from_start [] some = absurd (omega (arith, some))
runs_from_start (run ∷ runs) some =
    let n = length (encode_utf8_all (run_text run)) in
    record {
      first = record { start = 0; end = 0 + length (encode_utf8_all (row_text run)) };
      more = places (0 + n) runs;
      all = refl;
      start = refl;
      rise = rise_from 0 (0 + n) (places (0 + n) runs) (omega arith) (places_rise (0 + n) runs);
    }

line_from_start : (cols : ℕ) (line : List ℕ) → FromStart (line_places cols line)
unfolding line_places
line_from_start cols line = elim (cases_Bool (length (chars line) == 0)) [
  | inl none ↦ rw none (record { first = record { start = 0; end = 0 }; more = []; all = refl; start = refl; rise = tt })
  | inr some ↦ rw some (runs_from_start (line_runs cols line) (runs_some cols line some))
]

pub from_start : (wrap : Wrap) (line : List ℕ) → FromStart (own_places wrap line)
from_start (At cols) line = line_from_start cols line
from_start Off line = record { first = record { start = 0; end = length line }; more = []; all = refl; start = refl; rise = tt }

pub outside_at_start : (es : List (ℕ × ℕ)) (at : ℕ) → outside_before at es 0 ≡ 0
outside_at_start [] at = omega arith
outside_at_start (e ∷ es) at = let more = outside_at_start es e.1 in omega (arith, more)

pub total_of_line : (n : ℕ) (es ms : List (ℕ × ℕ)) (ss : List Span) → FromStart ss → match_total (finds_in_rows n es ms ss) ≡ length ms
total_of_line n es ms ss h =
    let zero_start : outside_before 0 es h.first.start ≡ 0 = ap (outside_before 0 es) h.start ∙ outside_at_start es 0 in
    ap (λ l. match_total (finds_in_rows n es ms l)) h.all
    ∙ rows_total n es ms h.first h.more (rise_at _ _ h.start h.rise) ∙ ap (λ k. from_count k ms) zero_start ∙ all_count ms

pub total_of_lines : MatchTotalIsOfLines
total_of_lines pattern wrap n [] = refl
total_of_lines pattern wrap n (line ∷ more) =
    let here = total_of_line n (escape_places line) (line_match_places pattern line) (own_places wrap line) (from_start wrap line) in
    let rest = total_of_lines pattern wrap (n + length (own_rows wrap line)) more in
    total_both (finds_in_line pattern wrap n line) (finds_in_lines pattern wrap (n + length (own_rows wrap line)) more)
    ∙ omega (arith, here, rest, sum_by-cons (λ l. length (line_match_places pattern l)) line more)
