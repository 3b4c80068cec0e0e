-- What is shown of a row that there will be.
use Rattle.std.proofs.Common.{◌≡◌, ℕ, ◌<◌, List, length, Option, sym, ap, ◌∙◌}
use Rattle.std.specs.List.{slice_get}
use Rattle.regex.specs.Patterns.{Re}
use Rattle.minus_text.specs.Document.{Document, rows_of}
use Rattle.minus_state.specs.declared.selection.SelectionEnds.{SelectionEnds}
use Rattle.minus_state.specs.Selection.{ends_in_order}
use Rattle.minus_state.specs.ShownRow.{shown_row}
use Rattle.minus_state.specs.Page.{shown_of}
use Rattle.minus_state.proofs.ShownRowsLaws.{get-shown_rows}

-- a row that is shown after a change is the one with its number among those that are
pub row_shown : (term : Option Re) (d shown : Document) (left mark : ℕ) (ends set : SelectionEnds) (o : Option (List ℕ)) (i : ℕ) → shown ≡ d → mark ≡ left → set ≡ ends → i < length (rows_of d)
    → o ≡ shown_row term shown mark (ends_in_order set) i → o ≡ slice_get (shown_of term d left ends) i
row_shown term d shown left mark ends set o i same left_is ends_are l is =
    is
    ∙ ap (λ (x : Document). shown_row term x mark (ends_in_order set) i) same
    ∙ ap (λ (n : ℕ). shown_row term d n (ends_in_order set) i) left_is
    ∙ ap (λ (e : SelectionEnds). shown_row term d left (ends_in_order e) i) ends_are
    ∙ sym (get-shown_rows term d left (ends_in_order ends) i l)
