-- No operation yet, and one more.
use Rattle.minus_term.specs.Operations.{op_of}
use Rattle.minus_term.proofs.WrittenLaws.{no_op, op_next}
use Rattle.minus_term.proofs.draw.write_ops.Goals as goal

pub loop-op-init : goal.loop-op-init
loop-op-init c = no_op c.args.out.now.items

pub loop-op-preserved : goal.loop-op-preserved
loop-op-preserved c = op_next op_of c.args.ops.now c.loop-op.op-index _ c.args.out.now.items c.loop-op.out.items c.write_op.new.out.items c.loop-op-test.true c.loop-op.invariant c.in_ok-write_op.ensures.ok
