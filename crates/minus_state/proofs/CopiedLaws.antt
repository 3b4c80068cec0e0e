-- Places in a row as places in the text, where it may be cut.
use Rattle.std.proofs.Common.{◌≡◌, ℕ, ◌+◌, ◌≤◌, List, ◌++◌, length, take, drop, Some, append_assoc, refl, sym, subst, ap, ◌∙◌}
use Rattle.std.specs.List.{concat, slice_get}
use Rattle.std.specs.Str.{IsUtf8, IsCharBoundary}
use Rattle.std.proofs.lemmas.List.{length-append, take-append-drop}
use Rattle.std.proofs.lemmas.List.Folds.{drop_split}
use Rattle.std.proofs.lemmas.Str.{IsUtf8-append, IsUtf8-between, IsUtf8-drop, IsCharBoundary-at_seam, IsCharBoundary-from_rest}
use Rattle.minus_text.specs.declared.rows.Span.{Span}
use Rattle.minus_text.specs.Rows.{IsPlace}
use Rattle.minus_text.specs.Document.{Document, rows_of, wrap_in}
use Rattle.minus_text.specs.LinePlaces.{row_places}
use Rattle.minus_text.proofs.PlacesLaws.{stored-are, stored_some}
use Rattle.minus_state.specs.declared.copied.Side.{Side}
use Rattle.minus_state.specs.declared.copied.Side.TheVariants.{Before, Behind}
use Rattle.minus_state.specs.VisibleCharacters.{before_visible, behind_visible, text_of, row_units, place_of_visible, place_after_visible}
use Rattle.minus_state.specs.Copied.{side_in_row}
use Rattle.minus_state.proofs.VisibleLaws.{text_of-append, visible_split, row_text, utf8_rest}

-- the row of a document at a place of its text
pub row_in_text : (d : Document) (i : ℕ) (s : Span) (row : List ℕ) → IsUtf8 d.text → slice_get (row_places d) i ≡ Some s → slice_get (rows_of d) i ≡ Some row → IsPlace d.text s row
unfolding row_places rows_of
row_in_text d i s row u e f =
    let found = stored_some d.text (row_places d) (rows_of d) i s (stored-are d.text (wrap_in d) u) e in
    let same : found.0 ≡ row = let both : Some found.0 ≡ Some row = sym found.1 ∙ f in cc in
    subst (λ (r : List ℕ). IsPlace d.text s r) same found.2

-- a row cut at a place
pub record IsCutAt (row : List ℕ) (place : ℕ) : Type 0 where
  pub front : List ℕ
  pub rest : List ℕ
  pub row_is : row ≡ front ++ rest
  pub place_is : place ≡ length front
  pub rest_is : IsUtf8 rest

cut_at_units : (row : List ℕ) (us vs : List (List ℕ)) → IsUtf8 row → row ≡ text_of (us ++ vs) → IsCutAt row (length (text_of us))
cut_at_units row us vs u e =
    let parts : row ≡ text_of us ++ text_of vs = e ∙ text_of-append us vs in
    record { front = text_of us; rest = text_of vs; row_is = parts; place_is = refl; rest_is = utf8_rest (concat us) row (text_of vs) u parts }

-- a row may be cut at both sides of a visible character
pub cut_at_side : (side : Side) (column : ℕ) (row : List ℕ) → IsUtf8 row → IsCutAt row (side_in_row side column row)
unfolding place_of_visible place_after_visible
cut_at_side Before column row u =
    cut_at_units row (before_visible column (row_units row)) (behind_visible column (row_units row)) u (sym (row_text row u) ∙ ap text_of (sym (visible_split column (row_units row))))
cut_at_side Behind column row u =
    let before : List (List ℕ) = before_visible column (row_units row) in
    let behind : List (List ℕ) = behind_visible column (row_units row) in
    cut_at_units row (before ++ take 1 behind) (drop 1 behind) u
    (sym (row_text row u) ∙ ap text_of (sym (visible_split column (row_units row)) ∙ ap (λ us. before ++ us) (sym (take-append-drop 1 behind)) ∙ sym (append_assoc before (take 1 behind) (drop 1 behind))))

-- so the text may be cut there
pub record IsInText (text : List ℕ) (place : ℕ) : Type 0 where
  pub within : place ≤ length text
  pub boundary : IsCharBoundary text place

pub cut_in_text : (text row : List ℕ) (s : Span) (place : ℕ) → IsUtf8 text → IsPlace text s row → IsCutAt row place → IsInText text (s.start + place)
cut_in_text text row s place u at c =
    let rest : List ℕ = drop s.end text in
    let size : length row ≡ length c.front + length c.rest = ap length c.row_is ∙ length-append c.front c.rest in
    let here : drop s.start text ≡ c.front ++ (c.rest ++ rest) =
    drop_split text s.start s.end at.ordered ∙ ap (λ bs. bs ++ rest) (at.value ∙ c.row_is) ∙ append_assoc c.front c.rest rest in
    let cut : IsCharBoundary (drop s.start text) (length c.front) = IsCharBoundary-at_seam (drop s.start text) c.front (c.rest ++ rest) here (IsUtf8-append c.rest rest c.rest_is (IsUtf8-drop text s.end u at.end)) in
    let b : IsCharBoundary text (s.start + place) = rw c.place_is (IsCharBoundary-from_rest text s.start (length c.front) at.start.0 cut) in
    record { within = b.0; boundary = b }

-- a side of a character of a row, as a place in the text
pub side_in_text : (d : Document) (side : Side) (i column : ℕ) (s : Span) (row : List ℕ) (place : ℕ) → IsUtf8 d.text → Some s ≡ slice_get (row_places d) i → Some row ≡ slice_get (rows_of d) i → place ≡ side_in_row side column row → IsInText d.text (s.start + place)
side_in_text d side i column s row place u e f p =
    let at : IsPlace d.text s row = row_in_text d i s row u (sym e) (sym f) in
    let text : IsUtf8 row = subst (λ (r : List ℕ). IsUtf8 r) at.value (IsUtf8-between d.text s.start s.end u at.ordered at.start at.end) in
    cut_in_text d.text row s place u at (rw p (cut_at_side side column row text))
