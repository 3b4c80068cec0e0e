-- No row yet, and one more row.
use Rattle.std.proofs.Common.{ℕ, List, ◌++◌, ap, ◌∙◌}
use Rattle.minus_term.specs.FullRedraw.{row_ops}
use Rattle.minus_term.specs.Written.{written_all}
use Rattle.minus_term.proofs.WrittenLaws.{no_op}
use Rattle.minus_term.proofs.FullRedrawLaws.{rows_more}
use Rattle.minus_term.proofs.full_redraw.push_rows.Goals as goal

pub loop-row-init : goal.loop-row-init
loop-row-init g c = no_op c.args.out.now.items

pub loop-row-preserved : goal.loop-row-preserved
loop-row-preserved g c = rows_more g.R.AsStr.text c.args.shown.now c.loop-row.row-index _ c.args.out.now.items c.loop-row.out.items c.write_row.new.out.items c.loop-row-test.true c.loop-row.invariant
    (c.in_ok-write_row.ensures ∙ ap (λ (r : List ℕ). c.loop-row.out.items ++ written_all (row_ops r)) (c.as_str.ensures ∙ ap g.R.AsStr.text c.row-item.is))
