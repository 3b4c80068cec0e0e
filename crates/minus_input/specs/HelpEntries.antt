-- The entries of the help table, one by one.
use Rattle.std.specs.Prelude.{ℕ, List, Option, slice_get}
use Rattle.std.specs.Option.{option_and_then}
use Rattle.minus_input.specs.HelpTable.{Entry}
use Rattle.minus_input.specs.Register.{Binding}
use Rattle.minus_input.specs.RegisterHelp.{binding_entry}
use Rattle.minus_input.specs.declared.event_form.EventWrapper.{EventWrapper}

-- the entry of the binding at a place
abbrev pub entry_at : {A : Type 0} → List (EventWrapper × Binding A) → ℕ → Option Entry
entry_at bindings place = option_and_then binding_entry (slice_get bindings place)
