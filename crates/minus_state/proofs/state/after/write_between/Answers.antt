-- One more row, since there is one.
use Rattle.std.proofs.Common.{◌≡◌, ◌+◌, ◌-◌, ◌<◌, ◌++◌, List, ℕ, min, length, take, drop, Option, sym, subst, ap, ◌∙◌, refl, arith}
use Rattle.std.specs.List.{flat_map}
use Rattle.std.proofs.lemmas.List.{length-take, length-drop}
use Rattle.regex.specs.Patterns.{Re}
use Rattle.minus_term.specs.FullRedraw.{row_ops}
use Rattle.minus_term.specs.Written.{written_all}
use Rattle.minus_text.specs.Document.{Document, rows_of}
use Rattle.minus_text.specs.Found.{found_of_row}
use Rattle.minus_text.specs.Searched.{Searched, IsFoundBy}
use Rattle.minus_text.specs.Views.{viewed}
use Rattle.minus_state.specs.declared.selection.SelectionEnds.{SelectionEnds}
use Rattle.minus_state.specs.Selection.{ends_in_order}
use Rattle.minus_state.specs.ShownRow.{shown_row}
use Rattle.minus_state.proofs.ShownRowsLaws.{length-shown_rows}
use Rattle.minus_state.specs.NextTexts.{next_document, next_term}
use Rattle.minus_state.specs.Page.{shown_of}
use Rattle.minus_state.specs.States.{term_of}
use Rattle.minus_state.proofs.ShownLaws.{shown_part}
use Rattle.minus_state.proofs.ShowingLaws.{row_shown}
use Rattle.minus_state.proofs.WritingLaws.{nothing_written, written_next}
use Rattle.minus_state.proofs.OwnTextsLaws.{own_rows, page_part}
use Rattle.minus_state.proofs.ChangeLaws.{found_next}
use Rattle.minus_state.proofs.state.after.write_between.Goals as goal

pub returns-then-is_plain : goal.returns-then-is_plain
returns-then-is_plain c next =
    let d : Document = next_document c.args.state.now.screen.document c.args.change.now.text in
    let left : ℕ = c.args.change.now.left in
    let ends : SelectionEnds = c.args.change.now.ends in
    let term : Option Re = next_term (term_of c.args.state.now) c.args.change.now.text in
    let rows : List (List ℕ) = shown_of term d left ends in
    let mark : ℕ = c.args.change.now.mark in
    let showing = c.showing-showing.ensures in
    let view : Searched = viewed c.showing-showing.result.view in
    let set : SelectionEnds = c.showing-showing.result.ends in
    let found = subst (λ (x : Searched). IsFoundBy term x) (sym showing.view) (found_next term c.args.state.now.screen c.args.change.now.text next) in
    let own = own_rows term view left set (c.is_plain.ensures c.if-is_plain.true) found in
    let same : rows_of view.document ≡ rows =
    sym own ∙ ap (λ (x : Searched). shown_of term x.document left set) showing.view ∙ ap (λ (e : SelectionEnds). shown_of term d left e) showing.ends in
    let count : c.min-count.result ≡ min (length (take (c.args.change.now.rows - 1) (drop mark rows))) c.args.end = c.min-count.ensures ∙ ap (λ n. min n c.args.end) c.count_after.ensures.count in
    c.in_ok-write_texts.ensures ∙ ap (λ (ts : List (List ℕ)). c.args.out.now.items ++ written_all (flat_map row_ops ts)) (page_part (rows_of view.document) rows mark (c.args.change.now.rows - 1) c.args.first c.args.end c.min-count.result c.min-start.result same count c.min-start.ensures)

pub loop-i-init : goal.loop-i-init
loop-i-init c next = nothing_written c.args.out.now.items c.min-start.result (drop c.args.change.now.mark (shown_of (next_term (term_of c.args.state.now) c.args.change.now.text) (next_document c.args.state.now.screen.document c.args.change.now.text) c.args.change.now.left c.args.change.now.ends))

pub loop-i-preserved : goal.loop-i-preserved
loop-i-preserved c next =
    let d : Document = next_document c.args.state.now.screen.document c.args.change.now.text in
    let left : ℕ = c.args.change.now.left in
    let ends : SelectionEnds = c.args.change.now.ends in
    let term : Option Re = next_term (term_of c.args.state.now) c.args.change.now.text in
    let rows : List (List ℕ) = shown_of term d left ends in
    let mark : ℕ = c.args.change.now.mark in
    let count = c.count_after.ensures.count in
    let cut = c.min-count.ensures in
    let test = c.loop-i-test.true in
    let on_page = length-take (c.args.change.now.rows - 1) (drop mark rows) in
    let below = length-drop mark rows in
    let all = length-shown_rows term d left (ends_in_order ends) in
    let within : mark + c.loop-i.i < length rows = omega (arith, count, cut, test, on_page, below) in
    let showing = c.showing-showing.ensures in
    let view : Searched = viewed c.showing-showing.result.view in
    let found = subst (λ (x : Searched). IsFoundBy term x) (sym showing.view) (found_next term c.args.state.now.screen c.args.change.now.text next) in
    let row : Option (List ℕ) = shown_row term view.document c.showing-showing.result.left_mark (ends_in_order c.showing-showing.result.ends) (mark + c.loop-i.i) in
    written_next rows mark c.min-start.result c.loop-i.i c.args.out.now.items c.loop-i.out.items c.write_shown.new.out.items row c.loop-i.auto.i within (c.loop-i.invariant next)
    (row_shown term d _ left _ ends _ row (mark + c.loop-i.i) (ap (λ (x : Searched). x.document) showing.view) showing.left showing.ends (omega (arith, within, all)) refl)
    (c.in_ok-write_shown.ensures term (ap (found_of_row (mark + c.loop-i.i)) found))

pub returns : goal.returns
returns c next =
    let d : Document = next_document c.args.state.now.screen.document c.args.change.now.text in
    let shown : List (List ℕ) = drop c.args.change.now.mark (shown_of (next_term (term_of c.args.state.now) c.args.change.now.text) d c.args.change.now.left c.args.change.now.ends) in
    let count : c.min-count.result ≡ min (length (take (c.args.change.now.rows - 1) shown)) c.args.end = c.min-count.ensures ∙ ap (λ n. min n c.args.end) c.count_after.ensures.count in
    let start = c.min-start.ensures in
    let end : c.loop-i.i ≡ c.min-count.result = omega (arith, start, c.loop-i-test.false, c.loop-i.auto.i-end) in
    c.loop-i.invariant next ∙ ap (λ (ts : List (List ℕ)). c.args.out.now.items ++ written_all (flat_map row_ops ts)) (shown_part shown (c.args.change.now.rows - 1) c.args.first c.args.end c.min-count.result c.min-start.result c.loop-i.i count start end)
