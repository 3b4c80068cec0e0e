use Rattle.std.proofs.Common.{◌≡◌, ◌∙◌, sym, ap, subst, is_some, true}
use Rattle.std.specs.Option.{option_map, option_and_then}
use Rattle.minus_input.specs.HelpTable.{entry_of}
use Rattle.minus_input.specs.RegisterHelp.{binding_entry, key_entry}
use Rattle.minus_input.specs.Resolved.{binding_at}
use Rattle.minus_input.proofs.RegisterLaws.{EachIsRead-at, read_at, read_past, some_is, some_of}
use Rattle.minus_input.proofs.register.EventTable.entry_at.Goals as goal

pub returns-in_err-key : goal.returns-in_err-key
returns-in_err-key g c =
    ap (option_map entry_of) c.from_residual.ensures
    ∙ sym (ap (option_and_then binding_entry) (read_past (binding_at c.args.self.now.callbacks.items) c.args.self.now.bindings.entries c.args.place c.args.self.now.kept (sym c.in_err-key.ensures.entry)))

pub description_of-requires : goal.description_of-requires
description_of-requires g c =
    subst (λ l. is_some (binding_at l c.in_ok-key.bound.now) ≡ true) (sym c.deref.ensures.value)
    (EachIsRead-at (binding_at c.args.self.now.callbacks.items) c.args.self.now.bindings.entries c.args.place (c.in_ok-key.key.now, c.in_ok-key.bound.now) c.args.self.now.kept (sym c.in_ok-key.ensures.entry))

pub returns : goal.returns
returns g c =
    let is = EachIsRead-at (binding_at c.args.self.now.callbacks.items) c.args.self.now.bindings.entries c.args.place (c.in_ok-key.key.now, c.in_ok-key.bound.now) c.args.self.now.kept (sym c.in_ok-key.ensures.entry) in
    let read = some_of (binding_at c.args.self.now.callbacks.items c.in_ok-key.bound.now) is in
    let says : c.description_of.result.now ≡ read.0.description =
    some_is _ _ (c.description_of.ensures ∙ ap (λ l. option_map (λ b. b.description) (binding_at l c.in_ok-key.bound.now)) c.deref.ensures.value ∙ ap (option_map (λ b. b.description)) read.1) in
    c.key_entry.ensures ∙ ap (key_entry c.in_ok-key.key.now) says
    ∙ sym (ap (option_and_then binding_entry) (read_at (binding_at c.args.self.now.callbacks.items) c.args.self.now.bindings.entries c.args.place (c.in_ok-key.key.now, c.in_ok-key.bound.now) read.0
    c.args.self.now.kept (sym c.in_ok-key.ensures.entry) read.1))
