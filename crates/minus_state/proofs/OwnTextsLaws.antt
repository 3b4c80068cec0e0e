-- Rows that are shown as their own texts.
use Rattle.std.proofs.Common.{◌≡◌, ℕ, ◌+◌, ◌<◌, ◌≤◌, Bool, false, List, [], ◌++◌, length, take, drop, min, Option, None, Some, option_map, refl, sym, ap, ◌∙◌, arith, inl, inr}
use Rattle.std.specs.List.{flat_map, slice_get}
use Rattle.std.specs.Option.{unwrap_or}
use Rattle.std.specs.Prelude.{if◌then◌else◌}
use Rattle.std.proofs.lemmas.Bool.{cases_lt}
use Rattle.std.proofs.lemmas.List.{ext_get_or, take_all, drop-take, drop-drop}
use Rattle.std.proofs.lemmas.Option.{unwrap_or-slice_get, slice_get_past}
use Rattle.regex.specs.Patterns.{Re}
use Rattle.minus_term.specs.FullRedraw.{row_ops}
use Rattle.minus_term.specs.Written.{written_all}
use Rattle.minus_term.proofs.WrittenLaws.{no_op}
use Rattle.minus_text.specs.Document.{Document, rows_of}
use Rattle.minus_text.specs.Found.{found_of_row}
use Rattle.minus_text.specs.Searched.{Searched, IsFoundAt, IsFoundBy}
use Rattle.minus_text.specs.Styles.{ended}
use Rattle.minus_text.proofs.PlainViewLaws.{plain_row}
use Rattle.minus_state.specs.declared.selection.Selection.{Selection}
use Rattle.minus_state.specs.declared.selection.SelectionEnds.{SelectionEnds}
use Rattle.minus_state.specs.Selection.{ends_in_order}
use Rattle.minus_state.specs.ShownRow.{ended_in, with_marks, shown_row}
use Rattle.minus_state.specs.Page.{shown_of}
use Rattle.minus_state.specs.Showing.{ShowsOwnTexts}
use Rattle.minus_state.specs.Writing.{some_row_ops}
use Rattle.minus_state.proofs.ShownRowsLaws.{laid_on, length-shown_rows, get-shown_rows}
use Rattle.minus_state.proofs.ShownLaws.{shown_part}
use Rattle.minus_state.proofs.WritingLaws.{written_next}

-- ---- what is shown

as_it_is : (d : Document) (o : Option (List ℕ)) → d.layout.carry_style ≡ false → option_map (with_marks None) (option_map (ended_in d) o) ≡ o
as_it_is d None off = refl
as_it_is d (Some row) off = ap (λ (b : Bool). Some (if b then ended row else row)) off

own_row : (term : Option Re) (s : Searched) (left : ℕ) (ends : SelectionEnds) (i : ℕ) → ShowsOwnTexts s ends → IsFoundAt term s i → shown_row term s.document left (ends_in_order ends) i ≡ slice_get (rows_of s.document) i
own_row term s left ends i own found =
    let d : Document = s.document in
    ap (λ (e : Option (Selection × Selection)). shown_row term d left e i) own.unselected
    ∙ ap (λ (o : Option (List ℕ)). option_map (with_marks None) (option_map (ended_in d) o)) (laid_on term d left i own.wrapped ∙ plain_row term s i own.plain found)
    ∙ as_it_is d (slice_get (rows_of d) i) own.plain.unstyled

-- all rows
pub own_rows : (term : Option Re) (s : Searched) (left : ℕ) (ends : SelectionEnds) → ShowsOwnTexts s ends → IsFoundBy term s → shown_of term s.document left ends ≡ rows_of s.document
own_rows term s left ends own found =
    let d : Document = s.document in
    let rows : List (List ℕ) = shown_of term d left ends in
    let size : length rows ≡ length (rows_of d) = length-shown_rows term d left (ends_in_order ends) in
    ext_get_or [] rows (rows_of d) size (λ i l.
    let there : i < length (rows_of d) = omega (arith, l, size) in
    let same : slice_get rows i ≡ slice_get (rows_of d) i = get-shown_rows term d left (ends_in_order ends) i there ∙ own_row term s left ends i own (ap (found_of_row i) found) in
    sym (unwrap_or-slice_get rows i []) ∙ ap (λ (o : Option (List ℕ)). unwrap_or o []) same ∙ unwrap_or-slice_get (rows_of d) i [])

-- ---- what is written

-- what a call tells of what it answered
pub told_of : {X : Type 0} (f : X → List ℕ) (answer is : Option X) (o : Option (List ℕ)) → answer ≡ is → option_map f answer ≡ o → option_map f is ≡ o
told_of f answer is o e tells = sym (ap (option_map f) e) ∙ tells

-- one more text, or none where there is no row
pub text_next : (rows : List (List ℕ)) (n i : ℕ) (old a b : List ℕ) → n ≤ i → a ≡ old ++ written_all (flat_map row_ops (drop n (take i rows))) → b ≡ a ++ written_all (some_row_ops (slice_get rows i))
    → b ≡ old ++ written_all (flat_map row_ops (drop n (take (i + 1) rows)))
text_next rows n i old a b l e g = elim (cases_lt i (length rows)) [
  | inl lt ↦
      let here : i ≡ 0 + i = omega arith in
      written_next rows 0 n i old a b (slice_get rows i) l (omega (arith, lt)) e (ap (slice_get rows) here) g
  | inr ge ↦
      let stays : take i rows ≡ take (i + 1) rows = take_all i rows ge ∙ sym (take_all (i + 1) rows (omega (arith, ge))) in
      g
      ∙ ap (λ (o : Option (List ℕ)). a ++ written_all (some_row_ops o)) (slice_get_past rows i ge)
      ∙ sym (no_op a) ∙ e
      ∙ ap (λ (ts : List (List ℕ)). old ++ written_all (flat_map row_ops (drop n ts))) stays
]

-- the rows of a page from one on and before another, by their numbers in the text
pub page_part : (rows shown : List (List ℕ)) (mark k first end n start : ℕ) → rows ≡ shown → n ≡ min (length (take k (drop mark shown))) end → start ≡ min first n
    → drop (mark + start) (take (mark + n) rows) ≡ drop first (take end (take k (drop mark shown)))
page_part rows shown mark k first end n start same count s =
    ap (λ (xs : List (List ℕ)). drop (mark + start) (take (mark + n) xs)) same
    ∙ sym (drop-drop start mark (take (mark + n) shown))
    ∙ ap (drop start) (drop-take mark n shown)
    ∙ shown_part (drop mark shown) k first end n start n count s refl
