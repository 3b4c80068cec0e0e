-- Where nothing stands before rows and nothing was found in them, they are stored as their own texts.
use Rattle.std.proofs.Common.{◌≡◌, ℕ, ◌++◌, List, [], false, Option, None, Some, option_map, refl, sym, ap, ◌∙◌}
use Rattle.std.specs.List.{slice_get}
use Rattle.regex.specs.Patterns.{Re}
use Rattle.minus_text.specs.Document.{Document, rows_of}
use Rattle.minus_text.specs.CarriedStyles.{carried_style}
use Rattle.minus_text.specs.Found.{RowMatches, found_of_row, marked}
use Rattle.minus_text.specs.Finds.{finds}
use Rattle.minus_text.specs.Searched.{Searched, IsFoundAt, IsPlainView, stored_rows_for}
use Rattle.minus_text.proofs.SearchedLaws.{stored_behind}
use Rattle.minus_text.proofs.StoredKeptLaws.{nothing_before}

no_style : (d : Document) (i : ℕ) → d.layout.carry_style ≡ false → carried_style d i ≡ []
no_style d i off = rw off refl

own_text : (o : Option (List ℕ)) → o ≡ option_map (λ text. [] ++ [] ++ marked None text) o
own_text None = refl
own_text (Some text) = refl

-- a stored row of a plain view is the row's own text
pub plain_row : (term : Option Re) (s : Searched) (i : ℕ) → IsPlainView s → IsFoundAt term s i → slice_get (stored_rows_for term s.document) i ≡ slice_get (rows_of s.document) i
plain_row term s i plain found =
    let d : Document = s.document in
    let none : None ≡ found_of_row i (finds term d) = sym (ap (found_of_row i) plain.unfound) ∙ found in
    let row : Option RowMatches → List ℕ → List ℕ → List ℕ = λ o style text. [] ++ style ++ marked o text in
    sym (
    own_text (slice_get (rows_of d) i)
    ∙ ap (λ (o : Option RowMatches). option_map (row o []) (slice_get (rows_of d) i)) none
    ∙ ap (λ (style : List ℕ). option_map (row (found_of_row i (finds term d)) style) (slice_get (rows_of d) i)) (sym (no_style d i plain.unstyled))
    ∙ stored_behind term d i [] (nothing_before d i plain.unnumbered)
    )
