-- One more row, since there is one.
use Rattle.std.proofs.Common.{◌+◌, ◌-◌, ◌<◌, ◌≤◌, List, ℕ, ◌≡◌, min, length, take, drop, map, Option, sym, subst, ap, ◌∙◌, arith}
use Rattle.std.proofs.lemmas.List.{length-take, length-drop}
use Rattle.regex.specs.Patterns.{Re}
use Rattle.minus_text.specs.Document.{Document}
use Rattle.minus_text.specs.Found.{found_of_row}
use Rattle.minus_text.specs.Searched.{Searched, IsFoundBy}
use Rattle.minus_state.specs.declared.selection.SelectionEnds.{SelectionEnds}
use Rattle.minus_state.specs.Selection.{ends_in_order}
use Rattle.minus_state.proofs.ShownRowsLaws.{length-shown_rows}
use Rattle.minus_state.specs.NextTexts.{next_document, next_term}
use Rattle.minus_state.specs.Page.{shown_of}
use Rattle.minus_state.specs.States.{term_of}
use Rattle.minus_state.specs.Showing.{row_text}
use Rattle.minus_state.proofs.ShownLaws.{shown_next, shown_part}
use Rattle.minus_state.proofs.ShowingLaws.{row_shown}
use Rattle.minus_state.proofs.ChangeLaws.{found_next}
use Rattle.minus_state.proofs.state.after.shown_between.Goals as goal

pub loop-i-preserved : goal.loop-i-preserved
loop-i-preserved c =
    let few = c.in_ok-push_shown.ensures.few in
    let more : length c.push_shown.new.rows.items + c.min-start.result ≤ c.loop-i.i + 1 = omega (arith, few, c.loop-i.invariant.0) in (
      more,
      λ next. (
          let d : Document = next_document c.args.state.now.screen.document c.args.change.now.text in
          let left : ℕ = c.args.change.now.left in
          let ends : SelectionEnds = c.args.change.now.ends in
          let term : Option Re = next_term (term_of c.args.state.now) c.args.change.now.text in
          let rows : List (List ℕ) = shown_of term d left ends in
          let mark : ℕ = c.args.change.now.mark in
          let count = c.count_after.ensures.count in
          let cut = c.min-count.ensures in
          let test = c.loop-i-test.true in
          let on_page = length-take (c.args.change.now.rows - 1) (drop mark rows) in
          let below = length-drop mark rows in
          let all = length-shown_rows term d left (ends_in_order ends) in
          let within : mark + c.loop-i.i < length rows = omega (arith, count, cut, test, on_page, below) in
          let showing = c.showing-showing.ensures in
          let found = subst (λ (x : Searched). IsFoundBy term x) (sym showing.view) (found_next term c.args.state.now.screen c.args.change.now.text next) in
          shown_next rows mark c.min-start.result c.loop-i.i (map row_text c.loop-i.shown.items) (map row_text c.push_shown.new.rows.items) _ c.loop-i.auto.i within (c.loop-i.invariant.1 next)
          (row_shown term d _ left _ ends _ _ (mark + c.loop-i.i) (ap (λ (x : Searched). x.document) showing.view) showing.left showing.ends (omega (arith, within, all)) (c.in_ok-row.ensures term (ap (found_of_row (mark + c.loop-i.i)) found))) c.in_ok-push_shown.ensures.rows
          ),
    )

pub returns-clause-few : goal.returns-clause-few
returns-clause-few c =
    let start = c.min-start.ensures in
    let count = c.min-count.ensures in
    omega (arith, start, count, c.count_after.ensures.count, c.loop-i.invariant.0, c.loop-i.auto.i-end)

pub returns-clause-rows : goal.returns-clause-rows
returns-clause-rows c next =
    let d : Document = next_document c.args.state.now.screen.document c.args.change.now.text in
    let shown : List (List ℕ) = drop c.args.change.now.mark (shown_of (next_term (term_of c.args.state.now) c.args.change.now.text) d c.args.change.now.left c.args.change.now.ends) in
    let count : c.min-count.result ≡ min (length (take (c.args.change.now.rows - 1) shown)) c.args.end = c.min-count.ensures ∙ ap (λ n. min n c.args.end) c.count_after.ensures.count in
    let start = c.min-start.ensures in
    let end : c.loop-i.i ≡ c.min-count.result = omega (arith, start, c.loop-i-test.false, c.loop-i.auto.i-end) in
    c.loop-i.invariant.1 next ∙ shown_part shown (c.args.change.now.rows - 1) c.args.first c.args.end c.min-count.result c.min-start.result c.loop-i.i count start end
