-- What is found in the lines of a text, line by line.
use Rattle.std.proofs.Common.{inl, inr, ◌≡◌, ℕ, ◌+◌, ◌-◌, ◌<◌, ◌≤◌, ◌==◌, true, false, nat_lt, List, [], ◌∷◌, ◌++◌, map, length, take, drop, get_or, refl, sym, ap, ap₂, subst, ◌∙◌, arith, append_assoc, chars, length-append, replicate}
use Rattle.std.specs.List.{sum_by}
use Rattle.std.specs.Str.{encode_utf8_all}
use Rattle.std.specs.Str.Lines.{strip_carriage_return}
use Rattle.std.proofs.lemmas.Bool.{cases_Bool, cases_lt}
use Rattle.std.proofs.lemmas.List.{append-nil, length-map, take_at, drop_at, drop-drop, length-drop, get_or-drop}
use Rattle.std.proofs.lemmas.List.Sums.{sum_by-cons}
use Rattle.std.proofs.lemmas.Str.{encodes-append}
use Rattle.regex.specs.Patterns.{Re}
use Rattle.minus_text.specs.declared.rows.Span.{Span}
use Rattle.minus_text.specs.declared.layout.Wrap.{Wrap}
use Rattle.minus_text.specs.declared.layout.Wrap.TheVariants.{At, Off}
use Rattle.minus_text.specs.Layouts.{own_rows, own_places}
use Rattle.minus_text.specs.Lines.{Cut, cut, whole, behind}
use Rattle.minus_text.specs.Pieces.{Piece, piece_text}
use Rattle.minus_text.specs.Rows.{line_places, line_runs, places, row_text, run_text}
use Rattle.minus_text.specs.Kept.{moved, line_stored, bytes_of, closed_stored, open_stored, stored_from}
use Rattle.minus_text.specs.Document.{first_rows}
use Rattle.minus_text.specs.Escapes.{escape_places}
use Rattle.minus_text.specs.Highlight.{line_match_places}
use Rattle.minus_text.specs.Found.{RowMatches}
use Rattle.minus_text.specs.LineFinds.{finds_in_rows, finds_in_line, finds_in_lines}
use Rattle.minus_text.specs.LineSplits.{RowsOrdered, in_line, lines_of, rows_end}
use Rattle.minus_text.proofs.LineSplitLaws.{rows_lower}
use Rattle.minus_text.proofs.FindsLaws.{as_many}

-- ---- the rows of a line stand one behind another

row_goes_on : (run : List Piece) → (more : List ℕ) × (run_text run ≡ row_text run ++ more)
row_goes_on [] = ([], refl)
row_goes_on (p ∷ []) = (replicate p.spaces 32, append-nil (piece_text p))
row_goes_on (p ∷ q ∷ ps) = let h = row_goes_on (q ∷ ps) in (h.0, ap (λ xs. piece_text p ++ xs) h.1 ∙ sym (append_assoc (piece_text p) (row_text (q ∷ ps)) h.0))

row_fits_run : (run : List Piece) → length (encode_utf8_all (row_text run)) ≤ length (encode_utf8_all (run_text run))
row_fits_run run =
    let on = row_goes_on run in
    let size = ap (λ cs. length (encode_utf8_all cs)) on.1 ∙ ap length (encodes-append (row_text run) on.0) ∙ length-append (encode_utf8_all (row_text run)) (encode_utf8_all on.0) in
    omega (arith, size)

places_ordered : (at : ℕ) (runs : List (List Piece)) → RowsOrdered at (places at runs)
places_ordered at [] = tt
places_ordered at (run ∷ runs) =
    let n = length (encode_utf8_all (run_text run)) in
    let fits = row_fits_run run in
    (omega arith, omega arith, rows_lower _ (at + n) (places (at + n) runs) (omega (arith, fits)) (places_ordered (at + n) runs))

line_ordered : (cols : ℕ) (line : List ℕ) → RowsOrdered 0 (line_places cols line)
unfolding line_places
line_ordered cols line = elim (cases_Bool (length (chars line) == 0)) [
  | inl none ↦ rw none (omega arith, omega arith, tt)
  | inr some ↦ rw some (places_ordered 0 (line_runs cols line))
]

own_ordered : (wrap : Wrap) (line : List ℕ) → RowsOrdered 0 (own_places wrap line)
own_ordered (At cols) line = line_ordered cols line
own_ordered Off line = (omega arith, omega arith, tt)

moved_ordered : (at b : ℕ) (ss : List Span) → RowsOrdered b ss → RowsOrdered (at + b) (map (moved at) ss)
moved_ordered at b [] h = tt
moved_ordered at b (s ∷ ss) h = let up = h.0 in let over = h.1 in (omega (arith, up), omega (arith, over), moved_ordered at s.end ss h.2)

pub stored_ordered : (wrap : Wrap) (at : ℕ) (line : List ℕ) → RowsOrdered at (line_stored wrap at line)
stored_ordered wrap at line = let z : at + 0 ≡ at = omega arith in subst (λ k. RowsOrdered k (line_stored wrap at line)) z (moved_ordered at 0 (own_places wrap line) (own_ordered wrap line))

-- ---- a line's rows among those of a text

pub back : (at : ℕ) (ss : List Span) → map (in_line at) (map (moved at) ss) ≡ ss
back at [] = refl
back at (s ∷ ss) =
    let start : (at + s.start) - at ≡ s.start = omega arith in
    let end : (at + s.end) - at ≡ s.end = omega arith in
    ap₂ (λ x y. let t : Span = record { start = x; end = y } in t ∷ map (in_line at) (map (moved at) ss)) start end ∙ ap (λ l. s ∷ l) (back at ss)

pub found_in_own : (re : Re) (wrap : Wrap) (n at : ℕ) (line : List ℕ) (own : List Span) → own ≡ line_stored wrap at line →
    finds_in_rows n (escape_places line) (line_match_places re line) (map (in_line at) own) ≡ finds_in_line re wrap n line
found_in_own re wrap n at line own is =
    ap (finds_in_rows n (escape_places line) (line_match_places re line)) (ap (map (in_line at)) is ∙ back at (own_places wrap line))

pub rows_many : (wrap : Wrap) (at : ℕ) (line : List ℕ) → length (line_stored wrap at line) ≡ length (own_rows wrap line)
rows_many wrap at line = length-map (own_places wrap line) (moved at) ∙ as_many wrap line

pub stored_first : (wrap : Wrap) (at : ℕ) (line : List ℕ) (c : Cut) → stored_from wrap at (behind line c) ≡ line_stored wrap at (strip_carriage_return line) ++ stored_from wrap (at + (length line + 1)) c
stored_first wrap at line c =
    let sum : at + sum_by bytes_of (line ∷ c.closed) ≡ (at + (length line + 1)) + sum_by bytes_of c.closed = omega (arith, sum_by-cons bytes_of line c.closed) in
    ap (λ k. (line_stored wrap at (strip_carriage_return line) ++ closed_stored wrap (at + bytes_of line) c.closed) ++ open_stored wrap k c.open_line) sum
    ∙ append_assoc (line_stored wrap at (strip_carriage_return line)) (closed_stored wrap (at + bytes_of line) c.closed) (open_stored wrap ((at + (length line + 1)) + sum_by bytes_of c.closed) c.open_line)

no_lines : (wrap : Wrap) (at : ℕ) (closed : List (List ℕ)) (last : List ℕ) → lines_of (record { closed = closed; open_line = last }) ≡ [] → stored_from wrap at (record { closed = closed; open_line = last }) ≡ []
no_lines wrap at (x ∷ xs) last e = absurd (let z = ap length e in omega (arith, z))
no_lines wrap at [] last e = elim (cases_Bool (length last == 0)) [
  | inl none ↦ rw none refl
  | inr some ↦ let one : last ∷ [] ≡ [] = sym (rw some refl) ∙ e in absurd (let z = ap length one in omega (arith, z))
]

no_first_rows : (wrap : Wrap) (n : ℕ) (ls : List (List ℕ)) → length (first_rows wrap n ls) ≡ 0 → ls ≡ []
no_first_rows wrap n [] e = refl
no_first_rows wrap n (l ∷ ls) e = absurd (omega (arith, e))

first_is : (wrap : Wrap) (n : ℕ) (ls : List (List ℕ)) → 0 < length (first_rows wrap n ls) → get_or (first_rows wrap n ls) 0 0 ≡ n
first_is wrap n [] some = absurd (omega (arith, some))
first_is wrap n (l ∷ ls) some = refl

-- where the rows of the first of some lines end
pub end_is : (wrap : Wrap) (rows : List Span) (firsts : List ℕ) (first at done j : ℕ) (line : List ℕ) (c : Cut) →
    drop done rows ≡ stored_from wrap at (behind line c) → done ≤ length rows → drop j firsts ≡ first_rows wrap (first + done) (lines_of (behind line c)) →
    rows_end firsts (j + 1) first (length rows) ≡ done + length (own_rows wrap (strip_carriage_return line))
end_is wrap rows firsts first at done j line c here le starts =
    let k = length (own_rows wrap (strip_carriage_return line)) in
    let later = first_rows wrap ((first + done) + k) (lines_of c) in
    let rest : drop (j + 1) firsts ≡ later = sym (drop-drop 1 j firsts) ∙ ap (drop 1) starts in
    elim (cases_lt (j + 1) (length firsts)) [
      | inl lt ↦
          let t : nat_lt (j + 1) (length firsts) ≡ true = grind (arith, lt) in
          let some : 0 < length later = omega (arith, ap length rest, length-drop (j + 1) firsts, lt) in
          let place : (j + 1) + 0 ≡ j + 1 = omega arith in
          let value : get_or firsts (j + 1) 0 ≡ (first + done) + k =
          ap (λ q. get_or firsts q 0) (sym place) ∙ sym (get_or-drop (j + 1) firsts 0 0) ∙ ap (λ l. get_or l 0 0) rest ∙ first_is wrap ((first + done) + k) (lines_of c) some in
          rw t (omega (arith, value))
      | inr ge ↦
          let f : nat_lt (j + 1) (length firsts) ≡ false = grind (arith, ge) in
          let none : length later ≡ 0 = omega (arith, ap length rest, length-drop (j + 1) firsts, ge) in
          let no_more : stored_from wrap (at + (length line + 1)) c ≡ [] = no_lines wrap (at + (length line + 1)) c.closed c.open_line (no_first_rows wrap ((first + done) + k) (lines_of c) none) in
          let own = line_stored wrap at (strip_carriage_return line) in
          let all : drop done rows ≡ own = here ∙ stored_first wrap at line c ∙ ap (λ l. own ++ l) no_more ∙ append-nil own in
          let size : length rows - done ≡ k = sym (length-drop done rows) ∙ ap length all ∙ rows_many wrap at (strip_carriage_return line) in
          rw f (omega (arith, size, le))
    ]

-- ---- one line more

module _ (wrap : Wrap) (rows : List Span) (firsts : List ℕ) (first at done j : ℕ) (line : List ℕ) (rest : List ℕ) (c : Cut) (first_line : cut rest ≡ behind line c)
    (here : drop done rows ≡ stored_from wrap at (cut rest)) (few : done ≤ length rows) (starts : drop j firsts ≡ first_rows wrap (first + done) (lines_of (cut rest))) where
  abbrev own : List Span
  own = line_stored wrap at (strip_carriage_return line)

  abbrev k : ℕ
  k = length (own_rows wrap (strip_carriage_return line))

  abbrev next : ℕ
  next = at + (length line + 1)

  parts : drop done rows ≡ own ++ stored_from wrap next c
  parts = here ∙ ap (stored_from wrap at) first_line ∙ stored_first wrap at line c

  pub ends : rows_end firsts (j + 1) first (length rows) ≡ done + k
  ends = end_is wrap rows firsts first at done j line c (here ∙ ap (stored_from wrap at) first_line) few (starts ∙ ap (λ q. first_rows wrap (first + done) (lines_of q)) first_line)

  pub own_is : (end : ℕ) → end ≡ done + k → take (end - done) (drop done rows) ≡ own
  own_is end e =
      let size : end - done ≡ k = omega (arith, e) in
      ap₂ take size parts ∙ take_at own (stored_from wrap next c) k (rows_many wrap at (strip_carriage_return line))

  pub rest_is : (end : ℕ) → end ≡ done + k → drop end rows ≡ stored_from wrap next c
  rest_is end e =
      ap (λ n. drop n rows) e ∙ sym (drop-drop k done rows) ∙ ap (drop k) parts ∙ drop_at own (stored_from wrap next c) k (rows_many wrap at (strip_carriage_return line))

  pub end_within : (end : ℕ) → end ≡ done + k → end ≤ length rows
  end_within end e =
      let size = sym (length-drop done rows) ∙ ap length parts ∙ length-append own (stored_from wrap next c) in
      omega (arith, size, few, e, rows_many wrap at (strip_carriage_return line))

  pub starts_then : (end : ℕ) → end ≡ done + k → drop (j + 1) firsts ≡ first_rows wrap (first + end) (lines_of c)
  starts_then end e =
      let n : (first + done) + k ≡ first + end = omega (arith, e) in
      sym (drop-drop 1 j firsts) ∙ ap (drop 1) (starts ∙ ap (λ q. first_rows wrap (first + done) (lines_of q)) first_line) ∙ ap (λ m. first_rows wrap m (lines_of c)) n

  pub found_then : (re : Re) (end : ℕ) (old new whole : List RowMatches) → end ≡ done + k → new ≡ old ++ finds_in_line re wrap (first + done) (strip_carriage_return line) →
      old ++ finds_in_lines re wrap (first + done) (lines_of (cut rest)) ≡ whole → new ++ finds_in_lines re wrap (first + end) (lines_of c) ≡ whole
  found_then re end old new whole e grown all =
      let n : first + end ≡ (first + done) + k = omega (arith, e) in
      let one = finds_in_line re wrap (first + done) (strip_carriage_return line) in
      ap₂ (λ f m. f ++ finds_in_lines re wrap m (lines_of c)) grown n
      ∙ append_assoc old one (finds_in_lines re wrap ((first + done) + k) (lines_of c))
      ∙ ap (λ q. old ++ finds_in_lines re wrap (first + done) (lines_of q)) (sym first_line) ∙ all

-- ---- the last line

pub open_own : (wrap : Wrap) (at : ℕ) (rest : List ℕ) → (length rest == 0) ≡ false → stored_from wrap at (whole rest) ≡ line_stored wrap at rest
open_own wrap at rest some =
    let z : at + sum_by bytes_of [] ≡ at = omega arith in
    ap (λ k. open_stored wrap k rest) z ∙ rw some refl

pub open_found : (re : Re) (wrap : Wrap) (n : ℕ) (rest : List ℕ) → (length rest == 0) ≡ false → finds_in_lines re wrap n (lines_of (whole rest)) ≡ finds_in_line re wrap n rest
open_found re wrap n rest some = rw some (append-nil (finds_in_line re wrap n rest))

pub open_none : (re : Re) (wrap : Wrap) (n : ℕ) (rest : List ℕ) → (length rest == 0) ≡ true → finds_in_lines re wrap n (lines_of (whole rest)) ≡ []
open_none re wrap n rest none = rw none refl
