use Rattle.std.proofs.Common.{sym, ap, ◌∙◌}
use Rattle.minus_input.specs.EventForm.{same_event}
use Rattle.minus_input.specs.Register.{Register}
use Rattle.minus_input.specs.declared.bound.ActionOf.{ActionOf}
use Rattle.minus_input.specs.declared.event_form.EventWrapper.{EventWrapper}
use Rattle.minus_input.proofs.RegisterLaws.{pushed, bound_to_kept, EachIsRead-kept}
use Rattle.minus_input.proofs.register.EventTable.bind_all.Goals as goal

pub invariant_of-self-2 : goal.invariant_of-self-2
invariant_of-self-2 g c = record {
  kept = EachIsRead-kept c.args.self.now.callbacks.items c.args.kept same_event _ c.args.self.now.bindings.entries _ _ c.args.keys.now _
      (pushed c.push.result _ _ _ (sym c.is_err.ensures.value ∙ c.if-is_err.false) c.push.ensures.items) c.reserve.ensures.entries c.insert_all.ensures
      (c.len-number.ensures ∙ c.args.self.now.callbacks.ok.0) c.args.self.now.kept;
}

pub returns-clause-ok : goal.returns-clause-ok
returns-clause-ok g c =
    ap (λ l. let r : Register EventWrapper (ActionOf g.row.C.Denot) = record { bindings = l; wild = c.args.self.now.wild } in r)
    (bound_to_kept c.args.self.now.callbacks.items c.args.kept same_event _ c.args.self.now.bindings.entries _ _ c.args.keys.now _
    (pushed c.push.result _ _ _ (sym c.is_err.ensures.value ∙ c.if-is_err.false) c.push.ensures.items) c.reserve.ensures.entries c.insert_all.ensures
    (c.len-number.ensures ∙ c.args.self.now.callbacks.ok.0) c.args.self.now.kept)
