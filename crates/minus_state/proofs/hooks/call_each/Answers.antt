-- A callback that is called is one of the hook.
use Rattle.std.proofs.Common.{◌∙◌, sym, subst, refl}
use Rattle.minus_state.specs.HookIds.{AreOthersKept}
use Rattle.minus_state.proofs.HookLaws.{kept_called}
use Rattle.minus_state.proofs.hooks.call_each.Goals.{then-eq, else-eq}
use Rattle.minus_state.proofs.hooks.call_each.Goals as goal

pub loop-i-preserved : goal.loop-i-preserved
loop-i-preserved g c =
    let kept = AreOthersKept c.args.hook c.args.ids.now c.args.callbacks.now in
    let others : kept c.if-eq.callbacks = elim c.if-eq.branch [
      | then-eq w ↦ subst kept (sym w.callbacks-is) (kept_called c.args.hook c.args.ids.now c.args.callbacks.now c.loop-i.callbacks c.loop-i.i w.call.new.self _ c.loop-i.invariant.1 (sym w.if-eq.ensures))
      | else-eq w ↦ subst kept (sym w.callbacks-is) c.loop-i.invariant.1
    ] in
    (c.if-eq.auto.callbacks ∙ c.loop-i.invariant.0, others, refl)
