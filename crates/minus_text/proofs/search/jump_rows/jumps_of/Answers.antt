-- One row more.
use Rattle.std.proofs.Common.{◌≡◌, ◌++◌, ◌∷◌, [], arith, sym, ap, ◌∙◌}
use Rattle.minus_text.proofs.JumpLaws.{count_more, count_same, jump_more, jump_same}
use Rattle.minus_text.proofs.search.jump_rows.jumps_of.Goals as goal
use Rattle.minus_text.proofs.search.jump_rows.jumps_of.Goals.{then-row-gt0+in_ok-push, else-row-gt0}

pub loop-row-preserved : goal.loop-row-preserved
loop-row-preserved c =
    let fs = c.args.found.now in
    let i = c.loop-row.row-index in
    let f = c.row-item.result in
    let inv = c.loop-row.invariant in
    elim c.if-row-gt0.branch [
      | then-row-gt0+in_ok-push w ↦
          let next = w.end-is ∙ w.saturating_add-end.ensures in
          record {
            found = jump_more fs i f c.loop-row-test.true c.row-item.is c.loop-row.jumps.items c.if-row-gt0.jumps.items c.loop-row.end c.if-row-gt0.end inv.found inv.count next w.if-row-gt0.true
                (ap (λ v. v.items) w.jumps-is ∙ w.in_ok-push.ensures.items ∙ ap (λ k. c.loop-row.jumps.items ++ record { row = f.row; end = k } ∷ []) (sym w.end-is));
            count = count_more fs i f c.loop-row-test.true c.row-item.is c.loop-row.end c.if-row-gt0.end inv.count next;
          }
      | else-row-gt0 w ↦
          let none : f.begins ≡ 0 = omega (arith, w.if-row-gt0.false) in
          record {
            found = ap (λ v. v.items) w.jumps-is ∙ jump_same fs i f c.loop-row-test.true c.row-item.is c.loop-row.jumps.items inv.found none;
            count = w.end-is ∙ count_same fs i f c.loop-row-test.true c.row-item.is c.loop-row.end inv.count none;
          }
    ]
