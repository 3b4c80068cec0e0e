use Rattle.std.proofs.Common.{ap, sym, is_some, ◌∙◌}
use Rattle.minus_input.specs.EventForm.{same_event}
use Rattle.minus_input.specs.Resolved.{binding_at}
use Rattle.minus_input.proofs.RegisterLaws.{read_is_bound, bound_to-lookup}
use Rattle.minus_input.proofs.register.EventTable.is_bound.Goals as goal

pub returns : goal.returns
returns g c =
    c.contains_key.ensures ∙ ap is_some (bound_to-lookup same_event c.args.self.now.bindings.entries c.args.key.now)
    ∙ sym (read_is_bound (binding_at c.args.self.now.callbacks.items) same_event c.args.self.now.bindings.entries c.args.key.now c.args.self.now.kept)
