-- The text that a register gives for help.
use Rattle.std.specs.Prelude.{ℕ, ◌==◌, List, length, Option, None, Some, if◌then◌else◌}
use Rattle.std.specs.List.{filter_map}
use Rattle.std.specs.Str.{trim}
use Rattle.minus_term.specs.declared.event.Event.TheVariants.{Key}
use Rattle.minus_input.specs.declared.event_form.EventWrapper.{EventWrapper}
use Rattle.minus_input.specs.declared.event_form.EventWrapper.TheVariants.{ExactMatchEvent}
use Rattle.minus_input.specs.HelpTable.{Entry, key_name, help_table}
use Rattle.minus_input.specs.Register.{Register, Binding}

-- the entry of a key in the help table; what is no key has none
abbrev pub key_entry : EventWrapper → List ℕ → Option Entry
key_entry (ExactMatchEvent (Key key)) description =
    Some (record { name = key_name key; description = trim description })
key_entry other description = None

-- the entry of a bound key in the help table, with the description of what is bound to it; what is no key has none
abbrev pub binding_entry : {A : Type 0} → EventWrapper × Binding A → Option Entry
binding_entry binding = key_entry binding.0 binding.1.description

-- the entries of the keys of a register, in their order
abbrev pub key_entries : {A : Type 0} → List (EventWrapper × Binding A) → List Entry
key_entries bindings = filter_map binding_entry bindings

-- a text, unless it is empty
abbrev pub text_unless_empty : List ℕ → Option (List ℕ)
text_unless_empty table = if length table == 0 then None else Some table

-- the text of a register for help: the help table of its keys, if anything is listed in it
abbrev pub help_text : {A : Type 0} → Register EventWrapper A → Option (List ℕ)
help_text register = text_unless_empty (help_table (key_entries register.bindings))
