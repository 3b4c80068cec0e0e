-- Laws of shown rows.
use Rattle.std.proofs.Common.{◌≡◌, ℕ, suc, true, ◌+◌, ◌≤◌, List, [], ◌∷◌, ◌++◌, length, chars, Option, Some, None, append_assoc, option_map, refl, sym, subst, ap, ◌∙◌, inl, unwrap_or, ◌⊎◌}
use Rattle.std.specs.List.{slice_get, concat}
use Rattle.std.specs.Str.{IsUtf8, encode_utf8_all}
use Rattle.minus_text.specs.Crop.{cropped, shown_units, columns_of}
use Rattle.minus_text.specs.TextUnits.{text_units}
use Rattle.regex.specs.Patterns.{Re}
use Rattle.minus_text.specs.Document.{Document, rows_of}
use Rattle.minus_text.specs.Found.{found_of_row}
use Rattle.minus_text.specs.Finds.{finds}
use Rattle.minus_text.specs.ShownMatches.{marked_within}
use Rattle.minus_text.proofs.ShownColumnsLaws.{shown_columns_fit}
use Rattle.minus_state.specs.declared.selection.Selection.{Selection}
use Rattle.minus_state.specs.ShownRow.{columns_for_text, line_prefix, cropped_line, cropped_row, laid_row, ended_in, unmarked_row, selected_range, with_marks, shown_row, before_rows, rows_from, ShownRowsFit, ShownRowsAreClosed, SelectionAddsMarkersAlone}
use Rattle.minus_text.specs.Styles.{ended, IsClosed}
use Rattle.minus_text.proofs.StylesLaws.{ended_closed}
use Rattle.minus_state.specs.VisibleCharacters.{HasMarks}
use Rattle.std.proofs.lemmas.List.{append-nil}
use Rattle.minus_state.proofs.VisibleLaws.{marks_alone}

-- ---- rows one after another

before_more : (o : Option (List ℕ)) (rows more : List (List ℕ)) → (rows ++ before_rows o []) ++ more ≡ rows ++ before_rows o more
before_more None rows more = ap (λ rs. rs ++ more) (append-nil rows)
before_more (Some row) rows more = append_assoc rows (row ∷ []) more

pub one_row_more : (term : Option Re) (d : Document) (left : ℕ) (ends : Option (Selection × Selection)) (i n m : ℕ) (o : Option (List ℕ)) (rows more total : List (List ℕ)) → m ≡ suc n → o ≡ shown_row term d left ends i
    → rows ++ rows_from term d left ends i m ≡ total → more ≡ rows ++ before_rows o [] → more ++ rows_from term d left ends (i + 1) n ≡ total
one_row_more term d left ends i n m o rows more total e f t a =
    let rest : List (List ℕ) = rows_from term d left ends (i + 1) n in
    ap (λ rs. rs ++ rest) a ∙ before_more o rows rest ∙ ap (λ (x : Option (List ℕ)). rows ++ before_rows x rest) f ∙ ap (λ k. rows ++ rows_from term d left ends i k) (sym e) ∙ t

pub all_rows : (term : Option Re) (d : Document) (left : ℕ) (ends : Option (Selection × Selection)) (i m : ℕ) (rows total : List (List ℕ)) → m ≡ 0 → rows ++ rows_from term d left ends i m ≡ total → rows ≡ total
all_rows term d left ends i m rows total e t = sym (append-nil rows) ∙ ap (λ k. rows ++ rows_from term d left ends i k) (sym e) ∙ t

-- ---- shown rows fit

fits : (d : Document) (left i : ℕ) (row : List ℕ) (o : Option (List ℕ)) → option_map (with_marks None) (option_map (ended_in d) (option_map (cropped_line d left i) o)) ≡ Some row
    → (units : List (List ℕ)) × (row ≡ ended_in d (line_prefix d i ++ encode_utf8_all (concat units))) × (columns_of units ≤ columns_for_text d)
unfolding cropped
fits d left i row None e = absurd cc
fits d left i row (Some text) e =
    let is : ended_in d (line_prefix d i ++ cropped left (columns_for_text d) text) ≡ row = cc in
    (shown_units left (columns_for_text d) [] (text_units (chars text)), sym is, shown_columns_fit left (columns_for_text d) (chars text))

pub rows_fit : ShownRowsFit
rows_fit term d left i row off e =
    let cropped_is : laid_row term d left i ≡ cropped_row term d left i = rw off refl in
    fits d left i row (option_map (marked_within left (columns_for_text d) (found_of_row i (finds term d))) (slice_get (rows_of d) i)) (sym (ap (λ o. option_map (with_marks None) (option_map (ended_in d) o)) cropped_is) ∙ e)

-- ---- shown rows leave no style open

closed_some : (d : Document) (row : List ℕ) (o : Option (List ℕ)) → d.layout.carry_style ≡ true → option_map (with_marks None) (option_map (ended_in d) o) ≡ Some row → IsClosed row
closed_some d row None on e = absurd cc
closed_some d row (Some text) on e =
    let is : ended_in d text ≡ row = cc in
    let carried : ended_in d text ≡ ended text = rw on refl in
    subst IsClosed (sym carried ∙ is) (ended_closed text)

pub rows_closed : ShownRowsAreClosed
rows_closed term d left i row on e = closed_some d row (laid_row term d left i) on e

-- ---- marks

alone : (range : Option (ℕ × Option ℕ)) (row : List ℕ) → IsUtf8 row → (with_marks range row ≡ row) ⊎ HasMarks row (with_marks range row)
alone None row u = inl refl
alone (Some range) row u = marks_alone range.0 (unwrap_or range.1 (length row)) row u

same_row : (range : Option (ℕ × Option ℕ)) (o : Option (List ℕ)) (row shown : List ℕ) → option_map (with_marks None) o ≡ Some row → option_map (with_marks range) o ≡ Some shown → with_marks range row ≡ shown
same_row range None row shown e f = absurd cc
same_row range (Some text) row shown e f =
    let one : text ≡ row = cc in
    let two : with_marks range text ≡ shown = cc in
    ap (with_marks range) (sym one) ∙ two

pub markers_alone : SelectionAddsMarkersAlone
markers_alone term d left i ends row shown u e f =
    let range : Option (ℕ × Option ℕ) = selected_range d left (Some ends) i in
    let is : with_marks range row ≡ shown = same_row range (unmarked_row term d left i) row shown e f in
    subst (λ (s : List ℕ). (s ≡ row) ⊎ HasMarks row s) is (alone range row u)
