-- What a terminal's bytes begin with, as numbers.
use Rattle.std.specs.Prelude.{ℕ, List, [], ◌∷◌, Bool, Option, None, Some, if◌then◌else◌}
use Rattle.minus_term.specs.declared.event.Event.{Event}
use Rattle.minus_term.specs.declared.event.Event.TheVariants as events
use Rattle.minus_view.specs.Events.{first_unit, late_events}
use Rattle.minus_c.specs.Keys.{numbers_of_key}
use Rattle.minus_c.specs.Mouse.{numbers_of_mouse}
use Rattle.minus_c.specs.declared.keys.KeyNumbers.{KeyNumbers}
use Rattle.minus_c.specs.declared.mouse.MouseNumbers.{MouseNumbers}
use Rattle.minus_c.specs.declared.reading.ReadNumbers.{ReadNumbers}

-- the numbers where there is no key
abbrev pub no_key : KeyNumbers
no_key = record { code = 0; modifiers = 0; kind = 0; state = 0; value = 0 }

-- the numbers where nothing is done with the mouse
abbrev pub no_mouse : MouseNumbers
no_mouse = record { kind = 0; modifiers = 0; column = 0; row = 0 }

-- this many bytes are of a kind that says no more
abbrev pub read_plain : (kind taken : ℕ) → ReadNumbers
read_plain kind taken = record { kind = kind; taken = taken; key = no_key; mouse = no_mouse }

-- this many bytes are an event, if they are one: 1 is a key and 2 the mouse, each with its numbers; anything else is 3
abbrev pub read_event : (taken : ℕ) → Option Event → ReadNumbers
read_event taken (Some (events.Key key)) = record (read_plain 1 taken) { key = numbers_of_key key }
read_event taken (Some (events.Mouse mouse)) = record (read_plain 2 taken) { mouse = numbers_of_mouse mouse }
read_event taken other = read_plain 3 taken

-- what the first of some events is that one byte makes; 0 where there is none: more has to come
abbrev pub read_one : List Event → ReadNumbers
read_one [] = read_plain 0 0
read_one (event ∷ events) = read_event 1 (Some event)

-- what the beginning of a unit is, where nothing has followed it for a while or more may follow
abbrev pub read_late : List ℕ → (late : Bool) → ReadNumbers
read_late rest late = if late then read_one (late_events rest) else read_plain 0 0

-- what the first unit of some bytes is, if it is whole, and else what its beginning is
abbrev pub read_whole : Option (ℕ × Option Event) → ReadNumbers → ReadNumbers
read_whole (Some (taken, event)) rest = read_event taken event
read_whole None rest = rest

-- what bytes begin with, by the definitions of minus_view
abbrev pub read_first : List ℕ → (late : Bool) → ReadNumbers
read_first bytes late = read_whole (first_unit bytes) (read_late bytes late)
