use Rattle.std.proofs.Common.{sym, subst}
use Rattle.std.specs.List.{IsDistinct}
use Rattle.minus_state.specs.HookIds.{same_id}
use Rattle.minus_state.proofs.HookLaws.{none_once}
use Rattle.minus_state.proofs.hooks.HookList.new.Goals as goal

pub invariant_of-result-clause-once : goal.invariant_of-result-clause-once
invariant_of-result-clause-once g c = subst (IsDistinct same_id) (sym c.new.ensures.items) none_once
