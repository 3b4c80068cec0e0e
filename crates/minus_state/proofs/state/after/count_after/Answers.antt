-- As many rows are shown as there are.
use Rattle.std.proofs.Common.{ℕ, ◌-◌, List, Option, length, drop, ap, arith}
use Rattle.std.proofs.lemmas.List.{length-take, length-drop}
use Rattle.regex.specs.Patterns.{Re}
use Rattle.minus_text.specs.Document.{Document, rows_of}
use Rattle.minus_text.specs.Searched.{Searched}
use Rattle.minus_state.specs.declared.selection.SelectionEnds.{SelectionEnds}
use Rattle.minus_state.specs.Selection.{ends_in_order}
use Rattle.minus_state.proofs.ShownRowsLaws.{length-shown_rows}
use Rattle.minus_state.specs.NextTexts.{next_document, next_term}
use Rattle.minus_state.specs.Page.{shown_of}
use Rattle.minus_state.specs.States.{term_of}
use Rattle.minus_state.proofs.state.after.count_after.Goals as goal

pub returns-clause-count : goal.returns-clause-count
returns-clause-count c =
    let change = c.args.change.now in
    let d : Document = next_document c.args.state.now.screen.document change.text in
    let left : ℕ = change.left in
    let ends : SelectionEnds = c.args.change.now.ends in
    let term : Option Re = next_term (term_of c.args.state.now) change.text in
    let rows : List (List ℕ) = shown_of term d left ends in
    let all = length-shown_rows term d left (ends_in_order ends) in
    omega (arith, c.min.ensures, c.saturating_sub-left.ensures, c.len-rows.ensures, ap (λ (x : Searched). length (rows_of x.document)) c.view.ensures, length-take (change.rows - 1) (drop change.mark rows), length-drop change.mark rows, all)
