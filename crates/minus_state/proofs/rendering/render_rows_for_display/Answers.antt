-- One row more, and all of them.
use Rattle.std.proofs.Common.{◌≡◌, ℕ, suc, ◌+◌, ◌-◌, ◌<◌, min, map, string_bytes, option_map, ap, arith, ◌∙◌}
use Rattle.minus_text.specs.Views.{viewed}
use Rattle.minus_state.specs.Selection.{ends_in_order}
use Rattle.minus_state.specs.Showing.{row_text}
use Rattle.minus_state.specs.ShownRow.{rows_from, shown_rows}
use Rattle.minus_state.proofs.ShownRowLaws.{one_row_more, all_rows}
use Rattle.minus_state.proofs.rendering.render_rows_for_display.Goals as goal

pub loop-i-preserved : goal.loop-i-preserved
loop-i-preserved c = λ term h.
    let r = c.args.rendering.now in
    let ends = ends_in_order r.ends in
    let here : c.loop-i.i < c.args.end = omega (arith, c.loop-i-test.true, c.min-i-end.ensures) in
    let left : c.min-i-end.result - c.loop-i.i ≡ suc (c.min-i-end.result - (c.loop-i.i + 1)) = omega (arith, c.loop-i-test.true) in
    one_row_more term (viewed r.view).document r.left_mark ends c.loop-i.i (c.min-i-end.result - (c.loop-i.i + 1)) (c.min-i-end.result - c.loop-i.i) (option_map row_text c.in_ok-row.field-0) (map string_bytes c.loop-i.rows.items) (map string_bytes c.push_row.new.rows.items)
    (rows_from term (viewed r.view).document r.left_mark ends c.args.start (c.min-i-end.result - c.args.start)) left (c.in_ok-row.ensures term (h c.loop-i.i c.loop-i.auto.i here)) (c.loop-i.invariant term h) c.in_ok-push_row.ensures

pub returns : goal.returns
unfolding shown_rows
returns c = λ term h.
    let r = c.args.rendering.now in
    let ends = ends_in_order r.ends in
    let none : c.min-i-end.result - c.loop-i.i ≡ 0 = omega (arith, c.loop-i-test.false) in
    all_rows term (viewed r.view).document r.left_mark ends c.loop-i.i (c.min-i-end.result - c.loop-i.i) (map string_bytes c.loop-i.rows.items) (rows_from term (viewed r.view).document r.left_mark ends c.args.start (c.min-i-end.result - c.args.start)) none (c.loop-i.invariant term h)
    ∙ ap (λ (n : ℕ). rows_from term (viewed r.view).document r.left_mark ends c.args.start (n - c.args.start)) (c.min-i-end.ensures ∙ ap (min c.args.end) c.len-count.ensures)
