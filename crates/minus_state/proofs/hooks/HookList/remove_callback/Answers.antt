use Rattle.std.proofs.Common.{sym, subst}
use Rattle.std.specs.List.{IsDistinct}
use Rattle.minus_state.specs.HookIds.{same_id}
use Rattle.minus_state.proofs.HookLaws.{removed_once}
use Rattle.minus_state.proofs.hooks.HookList.remove_callback.Goals as goal

pub invariant_of-self-clause-once : goal.invariant_of-self-clause-once
invariant_of-self-clause-once g c =
    subst (IsDistinct same_id) (sym c.remove.ensures.items)
    (removed_once same_id c.args.self.now.ids.items c.in-Some.place c.args.self.now.once)
