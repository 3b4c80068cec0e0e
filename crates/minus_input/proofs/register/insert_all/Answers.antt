use Rattle.std.proofs.Common.{arith}
use Rattle.minus_input.specs.EventForm.{same_event}
use Rattle.minus_input.proofs.RegisterLaws.{on_ok, bind_step}
use Rattle.minus_input.proofs.register.insert_all.Goals as goal

pub loop-key-preserved : goal.loop-key-preserved
loop-key-preserved g c = (
  bind_step same_event c.args.bindings.now.entries c.loop-key.bindings.entries c.insert.new.self.entries c.args.keys.now c.loop-key.key-index _ c.args.bound
      c.loop-key-test.true c.loop-key.invariant.0 (on_ok _ _ _ c.unwrap.ensures c.insert.ensures.entries),
  omega (arith, c.insert.ensures.spare, c.loop-key.invariant.1),
)
