use Rattle.std.proofs.Common.{ap, Some}
use Rattle.minus_input.specs.Register.{Register}
use Rattle.minus_input.specs.declared.bound.ActionOf.{ActionOf}
use Rattle.minus_input.specs.declared.bound.ActionOf.TheVariants.{Default}
use Rattle.minus_input.specs.declared.default_action.DefaultAction.TheVariants.{TypeDigit}
use Rattle.minus_input.specs.declared.event_form.EventWrapper.{EventWrapper}
use Rattle.minus_input.proofs.DefaultBindingsLaws.{defaults_are_kept, defaults_are_bound}
use Rattle.minus_input.proofs.default_bindings.generate_default_bindings.Goals as goal

pub invariant_of-register-2 : goal.invariant_of-register-2
invariant_of-register-2 g c = record {
  kept = defaults_are_kept c.args.register.now.callbacks.items c.args.register.now.bindings.entries _ _ _ c.reserve.ensures.entries c.insert_defaults.ensures c.default_keys.ensures c.args.register.now.kept;
}

pub returns-clause-ok : goal.returns-clause-ok
returns-clause-ok g c =
    ap (λ l. let r : Register EventWrapper (ActionOf g.row.C.Denot) = record { bindings = l; wild = Some (Default TypeDigit) } in r)
    (defaults_are_bound c.args.register.now.callbacks.items c.args.register.now.bindings.entries _ _ _ c.reserve.ensures.entries c.insert_defaults.ensures c.default_keys.ensures c.args.register.now.kept)
