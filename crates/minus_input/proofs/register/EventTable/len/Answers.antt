use Rattle.std.proofs.Common.{sym, subst, ◌∙◌}
use Rattle.std.specs.List.{IsDistinct}
use Rattle.minus_input.specs.EventForm.{same_event}
use Rattle.minus_input.specs.Resolved.{binding_at}
use Rattle.minus_input.proofs.RegisterLaws.{length-read_each, keys-read_each}
use Rattle.minus_input.proofs.register.EventTable.len.Goals as goal

pub returns-clause-len : goal.returns-clause-len
returns-clause-len g c =
    c.len.ensures.len ∙ sym (length-read_each (binding_at c.args.self.now.callbacks.items) c.args.self.now.bindings.entries c.args.self.now.kept)

pub returns-clause-once : goal.returns-clause-once
returns-clause-once g c =
    subst (IsDistinct same_event) (sym (keys-read_each (binding_at c.args.self.now.callbacks.items) c.args.self.now.bindings.entries c.args.self.now.kept)) c.len.ensures.unique
