use Rattle.std.proofs.Common.{ap, sym, subst, ◌∙◌}
use Rattle.minus_input.specs.EventForm.{same_event}
use Rattle.minus_input.specs.Resolved.{binding_at, EachIsRead, read_each}
use Rattle.minus_input.specs.Register.{Register}
use Rattle.minus_input.specs.declared.bound.ActionOf.{ActionOf}
use Rattle.minus_input.specs.declared.event_form.EventWrapper.{EventWrapper}
use Rattle.minus_input.proofs.RegisterLaws.{unbind-remove_entry, read_unbind, EachIsRead-unbind}
use Rattle.minus_input.proofs.register.EventTable.unbind.Goals as goal

pub invariant_of-self : goal.invariant_of-self
invariant_of-self g c = record {
  kept = subst (EachIsRead (binding_at c.args.self.now.callbacks.items))
      (sym (c.shift_remove.ensures.entries ∙ unbind-remove_entry same_event c.args.self.now.bindings.entries c.args.key.now))
      (EachIsRead-unbind (binding_at c.args.self.now.callbacks.items) same_event c.args.self.now.bindings.entries c.args.key.now c.args.self.now.kept);
}

pub returns : goal.returns
returns g c =
    ap (λ l. let r : Register EventWrapper (ActionOf g.row.C.Denot) = record { bindings = l; wild = c.args.self.now.wild } in r)
    (ap (read_each (binding_at c.args.self.now.callbacks.items)) (c.shift_remove.ensures.entries ∙ unbind-remove_entry same_event c.args.self.now.bindings.entries c.args.key.now)
    ∙ read_unbind (binding_at c.args.self.now.callbacks.items) same_event c.args.self.now.bindings.entries c.args.key.now c.args.self.now.kept)
