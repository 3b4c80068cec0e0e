use Rattle.std.proofs.Common.{◌∙◌, ◌<◌, length, refl, arith}
use Rattle.std.proofs.lemmas.Option.{slice_get_read, slice_get_within}
use Rattle.minus_input.specs.EventForm.{same_event}
use Rattle.minus_input.proofs.RegisterLaws.{default_action_found, callback_found, nothing_found, callback_is_kept}
use Rattle.minus_input.proofs.register.EventTable.find.Goals as goal

pub index-requires : goal.index-requires
index-requires g c =
    let x = callback_is_kept same_event c.args.self.now.callbacks.items c.args.self.now.bindings.entries c.args.self.now.wild c.args.self.now.kept c.from.result _ c.from.ensures
    c.in-Some-Callback.field-0.now c.in-Some-Callback.number c.in-Some-Callback.ensures.value c.in-Some-Callback.field-0-is in
    let below : c.in-Some-Callback.number < length c.args.self.now.callbacks.items = slice_get_within c.args.self.now.callbacks.items c.in-Some-Callback.number x.0 x.1 in
    omega (arith, below, c.args.self.now.callbacks.ok.0)

pub returns-in-Some-Default : goal.returns-in-Some-Default
returns-in-Some-Default g c =
    default_action_found same_event c.args.self.now.callbacks.items c.args.self.now.bindings.entries c.args.self.now.wild c.args.self.now.kept c.from.result _ c.from.ensures
    c.in-Some-Default.field-0.now c.in-Some-Default.action c.in-Some-Default.ensures.value c.in-Some-Default.field-0-is

pub returns-in-Some-Callback : goal.returns-in-Some-Callback
returns-in-Some-Callback g c =
    let x = callback_is_kept same_event c.args.self.now.callbacks.items c.args.self.now.bindings.entries c.args.self.now.wild c.args.self.now.kept c.from.result _ c.from.ensures
    c.in-Some-Callback.field-0.now c.in-Some-Callback.number c.in-Some-Callback.ensures.value c.in-Some-Callback.field-0-is in
    callback_found same_event c.args.self.now.callbacks.items c.args.self.now.bindings.entries c.args.self.now.wild c.args.self.now.kept c.from.result _ c.from.ensures
    c.in-Some-Callback.field-0.now c.in-Some-Callback.number c.index.result.now c.in-Some-Callback.ensures.value c.in-Some-Callback.field-0-is
    (slice_get_read c.args.self.now.callbacks.items (length c.args.self.now.callbacks.items) c.in-Some-Callback.number c.index.result.now refl
    (slice_get_within c.args.self.now.callbacks.items c.in-Some-Callback.number x.0 x.1) c.index.ensures)

pub returns-in-None : goal.returns-in-None
returns-in-None g c =
    c.wild_action.ensures
    ∙ nothing_found same_event c.args.self.now.callbacks.items c.args.self.now.bindings.entries c.args.self.now.wild c.args.self.now.kept c.from.result _ c.from.ensures c.in-None.ensures.value
