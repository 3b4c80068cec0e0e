-- What contracts read of a register.
use Rattle.std.specs.Prelude.{ℕ, List}
use denote.Ref.{Bor}
use Rattle.minus_term.specs.declared.event.Event.TheVariants.{Resize}
use Rattle.minus_input.specs.declared.bound.ActionOf.{ActionOf}
use Rattle.minus_input.specs.declared.bound.ActionOf.TheVariants.{Default, Callback}
use Rattle.minus_input.specs.declared.event_form.EventWrapper.{EventWrapper}
use Rattle.minus_input.specs.declared.event_form.EventWrapper.TheVariants.{ExactMatchEvent}
use Rattle.minus_input.specs.declared.register.EventTable.{EventTable}
use Rattle.minus_input.specs.Register.{Register, Binding}
use Rattle.minus_input.specs.Resolved.{binding_at, read_each}

-- the register that a table holds
abbrev pub register_of : {S C H : Type 0} {builder hasher : _} → EventTable S C H builder hasher
    → Register EventWrapper (ActionOf C)
register_of table =
    record { bindings = read_each (binding_at table.callbacks.items) table.bindings.entries; wild = table.wild }

-- the action that is found, with its callback
abbrev pub seen_action : {C : Type 0} → ActionOf (Bor C) → ActionOf C
seen_action (Default default) = Default default
seen_action (Callback callback) = Callback callback.now

-- a callback, bound with a description
abbrev pub called : {C : Type 0} → C → List ℕ → Binding (ActionOf C)
called callback description = record { action = Callback callback; description = description }

-- the key of every resize
abbrev pub resize_key : EventWrapper
resize_key = ExactMatchEvent (Resize 0 0)
