use Rattle.std.proofs.Common.{◌≡◌, None, false, sym, subst, ap, ◌∙◌, position}
use Rattle.minus_state.specs.HookIds.{same_id, id_of, given, is_taken}
use Rattle.minus_state.proofs.HookLaws.{given_free}
use Rattle.minus_state.proofs.hooks.HookList.add_callback.Goals as goal

pub push-requires : goal.push-requires
push-requires g c =
    subst (λ id. position (same_id (id_of c.args.hook id)) c.args.self.now.ids.items ≡ None)
    (sym (c.in_ok-id.ensures.ok ∙ ap (λ held. given held c.args.hook c.args.id) c.deref.ensures.value))
    (given_free c.args.self.now.ids.items c.args.hook c.args.id
    (subst (λ held. is_taken held c.args.hook c.args.id ≡ false) c.deref.ensures.value c.in_ok-id.ensures.free))
