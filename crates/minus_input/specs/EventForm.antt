-- What two keys of a register are compared by.
use Rattle.std.specs.Prelude.{ℕ, List, ◌≡◌, ◌↔◌, Bool, true}
use Rattle.minus_term.specs.NormalForm.{normal_form}
use Rattle.minus_term.specs.declared.event.Event.{Event}
use Rattle.minus_term.specs.declared.event.Event.TheVariants as events
use Rattle.minus_term.specs.declared.event.KeyEvent.{KeyEvent}
use Rattle.minus_term.specs.declared.event.MouseEvent.{MouseEvent}
use Rattle.minus_input.specs.declared.event_form.EventForm.{EventForm}
use Rattle.minus_input.specs.declared.event_form.EventForm.TheVariants as forms
use Rattle.minus_input.specs.contracts.event_form.EventFormPartialEq.TheImpl.{ghosts as form_equality}
use Rattle.minus_input.specs.declared.event_form.EventWrapper.{EventWrapper}
use Rattle.minus_input.specs.declared.event_form.EventWrapper.TheVariants.{ExactMatchEvent, WildEvent}

-- what of an event counts: of a key its normal form, of the mouse what is done with it
-- and the modifiers, of a resize nothing more
abbrev pub event_form : Event → EventForm
event_form events.FocusGained = forms.FocusGained
event_form events.FocusLost = forms.FocusLost
event_form (events.Key key) = forms.Key (normal_form key)
event_form (events.Mouse mouse) = forms.Mouse mouse.kind mouse.modifiers
event_form (events.Resize cols rows) = forms.Resize

-- what two keys of a register are compared by: the form of an event, or that of the wild key
abbrev pub form_of : EventWrapper → EventForm
form_of (ExactMatchEvent event) = event_form event
form_of WildEvent = forms.Wild

-- whether two keys of a register are equal: they are of one form
unfoldable pub same_event : EventWrapper → EventWrapper → Bool
same_event a b = form_equality.eq (form_of a) (form_of b)

-- equal keys of a register give a hasher the same writes
abbrev pub EqualEventsHashEqually : (EventWrapper → EventWrapper → Bool) → (EventWrapper → List (List ℕ)) → Type 0
EqualEventsHashEqually equal writes = (a b : EventWrapper) → equal a b ≡ true → writes a ≡ writes b

-- all resizes are equal
abbrev pub ResizesAreOneKey : (EventWrapper → EventWrapper → Bool) → Type 0
ResizesAreOneKey equal =
    (a b c d : ℕ) → equal (ExactMatchEvent (events.Resize a b)) (ExactMatchEvent (events.Resize c d)) ≡ true

-- events of the mouse are equal where what is done and the modifiers are the same
abbrev pub MouseGoesByKindAndModifiers : (EventWrapper → EventWrapper → Bool) → Type 0
MouseGoesByKindAndModifiers equal =
    (a b : MouseEvent) → (equal (ExactMatchEvent (events.Mouse a)) (ExactMatchEvent (events.Mouse b)) ≡ true)
    ↔ ((a.kind ≡ b.kind) × (a.modifiers ≡ b.modifiers))

-- key events are equal where they are equal by themselves
abbrev pub KeysGoByTheirEquality : (EventWrapper → EventWrapper → Bool) → (KeyEvent → KeyEvent → Bool) → Type 0
KeysGoByTheirEquality equal same =
    (a b : KeyEvent) → equal (ExactMatchEvent (events.Key a)) (ExactMatchEvent (events.Key b)) ≡ same a b

-- the wild key is equal to itself and to no other
abbrev pub WildIsItselfAlone : (EventWrapper → EventWrapper → Bool) → Type 0
WildIsItselfAlone equal = (key : EventWrapper) → (equal WildEvent key ≡ true) ↔ (key ≡ WildEvent)
