-- The typed prefix: which events type to it, and which let it go.
use Rattle.std.specs.Prelude.{ℕ, ◌==◌, ◌&&◌, List, [], Bool, true, false, if◌then◌else◌}
use Rattle.std.specs.Char.{is_ascii_digit}
use Rattle.minus_term.specs.declared.event.Event.{Event}
use Rattle.minus_term.specs.declared.event.Event.TheVariants.{Key}
use Rattle.minus_term.specs.declared.event.KeyCode.{KeyCode}
use Rattle.minus_term.specs.declared.event.KeyCode.TheVariants.{Char}
use Rattle.minus_state.specs.Control.{Control}
use Rattle.minus_state.specs.declared.input.InputEvent.{InputEvent}
use Rattle.minus_state.specs.declared.input.InputEvent.TheVariants as events

-- what a key of this code with these modifiers asks for: an ASCII digit without modifiers is typed
-- to the prefix, and nothing else is asked for
abbrev pub typed_code : KeyCode → ℕ → InputEvent
typed_code (Char character) modifiers =
    if is_ascii_digit character && (modifiers == 0) then events.Number character else events.Ignore
typed_code code modifiers = events.Ignore

-- what an event asks for as a typed digit: a key is asked by its code and modifiers alone, however it is
-- held, and any other event asks for nothing
abbrev pub typed_digit : Event → InputEvent
typed_digit (Key key) = typed_code key.code key.modifiers.0
typed_digit event = events.Ignore

-- the typed prefix goes with an event that types nothing
abbrev pub event_clears : InputEvent → Bool
event_clears (events.Number character) = false
event_clears event = true

-- another prefix is typed
abbrev pub with_prefix : Control → List ℕ → Control
with_prefix c prefix = record c { settings = record c.settings { prefix = prefix } }

-- the typed prefix goes, or stays
abbrev pub cleared : Bool → Control → Control
cleared clears c = with_prefix c (if clears then [] else c.settings.prefix)
