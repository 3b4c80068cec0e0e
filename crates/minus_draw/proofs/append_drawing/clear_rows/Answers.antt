-- No row yet, and one more blank row.
use Rattle.minus_term.proofs.WrittenLaws.{no_op}
use Rattle.minus_draw.proofs.DrawingLaws.{blank_next}
use Rattle.minus_draw.proofs.append_drawing.clear_rows.Goals as goal

pub loop-i-init : goal.loop-i-init
loop-i-init c = no_op c.args.out.now.items

pub loop-i-preserved : goal.loop-i-preserved
loop-i-preserved c = blank_next c.args.first c.loop-i.i c.args.out.now.items c.loop-i.out.items c.write_ops.new.out.items c.loop-i.invariant c.in_ok-write_ops.ensures
