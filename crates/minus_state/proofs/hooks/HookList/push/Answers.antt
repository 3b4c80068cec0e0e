use Rattle.std.proofs.Common.{◌≡◌, ◌++◌, ◌∷◌, [], sym, subst, rules}
use Rattle.std.specs.List.{IsDistinct}
use Rattle.minus_state.specs.HookIds.{same_id}
use Rattle.minus_state.proofs.HookLaws.{added_once}
use Rattle.minus_state.proofs.hooks.HookList.push.Goals as goal

pub invariant_of-self-2-clause-once : goal.invariant_of-self-2-clause-once
invariant_of-self-2-clause-once g c =
    let all : c.push-2.new.self.items ≡ c.args.self.now.ids.items ++ c.args.entry ∷ [] = search rules in
    subst (IsDistinct same_id) (sym all)
    (added_once c.args.self.now.ids.items c.args.entry c.requires c.args.self.now.once)
