-- The units of some bytes, one after another, and their events.
use Rattle.std.specs.Prelude.{ℕ, ◌≡◌, List, [], ◌∷◌, ◌++◌, length, take, Option, Some, None, option_map, filter_map}
use Rattle.std.specs.Prelude.{bytes_eq, if◌then◌else◌}
use Rattle.minus_term.specs.declared.event.Event.{Event}
use Rattle.minus_term.specs.declared.event.KeyCode.TheVariants.{Esc}
use Rattle.minus_view.specs.Keys.{press}
use Rattle.minus_view.specs.KeySequences.{unit_len}
use Rattle.minus_view.specs.Meaning.{meaning}

-- bytes are these units, each whole, and then a rest: no byte is lost and none is read twice
abbrev pub Reads : List (List ℕ) → List ℕ → List ℕ → Type 0
Reads [] bytes rest = bytes ≡ rest
Reads (unit ∷ units) bytes rest =
    (unit_len bytes ≡ Some (length unit)) × ((more : List ℕ) × (bytes ≡ unit ++ more) × Reads units more rest)

-- what each unit means, in order; one that is not understood has no event
abbrev pub events_of : List (List ℕ) → List Event
events_of units = filter_map meaning units

-- the events of whole units at the front of bytes are added, and a rest is left
abbrev pub AddsEvents : (old new : List Event) → (bytes rest : List ℕ) → Type 0
AddsEvents old new bytes rest = (units : List (List ℕ)) × Reads units bytes rest × (new ≡ old ++ events_of units)

-- the first unit of some bytes: how many bytes it is, and its event, if it has one; nothing where it is cut
abbrev pub first_unit : List ℕ → Option (ℕ × Option Event)
first_unit bytes = option_map (λ n. (n, meaning (take n bytes))) (unit_len bytes)

-- the events of a rest that nothing has followed for a while: one `ESC` is the Esc key, and any other rest waits
abbrev pub late_events : List ℕ → List Event
late_events rest = if bytes_eq rest (27 ∷ []) then press Esc 0 ∷ [] else []

-- bytes that come in pieces have the units of the whole: those of the first piece, and those of its rest with the
-- second one
abbrev pub PiecesJoin : Type 0
PiecesJoin =
    (first second : List (List ℕ)) (bytes more waiting rest : List ℕ)
    → Reads first bytes waiting → Reads second (waiting ++ more) rest → Reads (first ++ second) (bytes ++ more) rest

-- bytes have one list of units up to a rest whose first unit is cut
abbrev pub UnitsAreDetermined : Type 0
UnitsAreDetermined =
    (units others : List (List ℕ)) (bytes rest left : List ℕ)
    → Reads units bytes rest → unit_len rest ≡ None → Reads others bytes left → unit_len left ≡ None → units ≡ others
