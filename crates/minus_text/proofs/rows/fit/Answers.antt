-- One run more, and none left.
use Rattle.std.proofs.Common.{◌≤◌, [], List, length, drop, arith, sym, ◌∙◌}
use Rattle.std.proofs.lemmas.List.{drop_all, append-nil, take_rest, length-drop}
use Rattle.std.proofs.lemmas.List.Sums.{sum_by-take-drop}
use Rattle.minus_text.specs.declared.pieces.Measured.{Measured}
use Rattle.minus_text.specs.MeasuredPieces.{size}
use Rattle.minus_text.proofs.RowsMeasured.{divided_more, sum_by-take_add}
use Rattle.minus_text.proofs.rows.fit.Goals as goal

pub returns : goal.returns
returns c =
    let h = c.loop-done.invariant.rest [] (drop_all c.loop-done.done c.args.pieces.now (omega arith)) in
    (h.0, h.1, sym (append-nil c.loop-done.rows.items) ∙ h.2)

pub first_run-run-requires-clause-small : goal.first_run-run-requires-clause-small
first_run-run-requires-clause-small c =
    rw (take_rest c.args.pieces.now c.loop-done.done) (omega (arith, sum_by-take-drop size c.args.pieces.now c.loop-done.done))

pub loop-done-preserved : goal.loop-done-preserved
loop-done-preserved c =
    let xs : List Measured = drop c.loop-done.done c.args.pieces.now in
    let whole = take_rest c.args.pieces.now c.loop-done.done in
    let count : c.first_run-run.result.count ≤ length xs = rw whole at c.first_run-run.ensures.count in
    let run = rw whole at c.first_run-run.ensures.run in
    let end = rw whole at c.first_run-run.ensures.end in
    let next = rw whole at c.first_run-run.ensures.next in
    record {
      within = omega (arith, length-drop c.loop-done.done c.args.pieces.now, count);
      at = omega (arith, sum_by-take_add c.args.pieces.now c.loop-done.done c.first_run-run.result.count, next);
      rest = rw (c.in_ok-push.ensures.items, next) (divided_more c.args.cols c.loop-done.at c.loop-done.done c.first_run-run.result.count c.args.pieces.now c.loop-done.rows.items c.first_run-run.result.end count run end c.loop-done.invariant.rest);
    }
