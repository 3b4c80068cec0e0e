-- The default bindings.
use Rattle.std.specs.Prelude.{ℕ, ◌+◌, ◌≡◌, ◌↔◌, List, [], ◌∷◌, ◌++◌, map, Option, Some, unwrap_or}
use Rattle.std.specs.List.{AllByRecursion}
use Rattle.minus_term.specs.declared.event.Event.{Event}
use Rattle.minus_term.specs.declared.event.Event.TheVariants as event
use Rattle.minus_term.specs.declared.event.KeyCode.{KeyCode}
use Rattle.minus_term.specs.declared.event.KeyCode.TheVariants.{Char, Up, Down, Enter, Home, End, Left, Right}
use Rattle.minus_term.specs.declared.event.KeyCode.TheVariants as code
use Rattle.minus_term.specs.declared.event.KeyEventKind.TheVariants.{Press}
use Rattle.minus_term.specs.declared.event.MouseButton.TheVariants as button
use Rattle.minus_term.specs.declared.event.MouseEventKind.{MouseEventKind}
use Rattle.minus_term.specs.declared.event.MouseEventKind.TheVariants as mouse
use Rattle.minus_state.specs.declared.input.InputEvent.{InputEvent}
use Rattle.minus_state.specs.declared.state.PagerState.{PagerState}
use Rattle.minus_input.specs.declared.bound.ActionOf.{ActionOf}
use Rattle.minus_input.specs.declared.bound.ActionOf.TheVariants.{Default}
use Rattle.minus_input.specs.declared.default_action.DefaultAction.{DefaultAction}
use Rattle.minus_input.specs.declared.default_action.DefaultAction.TheVariants.{Quit, ScrollUp, ScrollDown}
use Rattle.minus_input.specs.declared.default_action.DefaultAction.TheVariants.{ToggleFollow, ScrollLines, HalfPageUp}
use Rattle.minus_input.specs.declared.default_action.DefaultAction.TheVariants.{HalfPageDown, Top, GoToLine, PageUp}
use Rattle.minus_input.specs.declared.default_action.DefaultAction.TheVariants.{PageDown, ToggleNumbers, Bottom, Help}
use Rattle.minus_input.specs.declared.default_action.DefaultAction.TheVariants.{SearchForward, SearchBackward}
use Rattle.minus_input.specs.declared.default_action.DefaultAction.TheVariants.{NextMatch, PreviousMatch, WheelUp}
use Rattle.minus_input.specs.declared.default_action.DefaultAction.TheVariants.{WheelDown, StartSelection}
use Rattle.minus_input.specs.declared.default_action.DefaultAction.TheVariants.{UpdateSelection, CopySelection}
use Rattle.minus_input.specs.declared.default_action.DefaultAction.TheVariants.{ToggleWrap, ScrollLeft, ScrollRight}
use Rattle.minus_input.specs.declared.default_action.DefaultAction.TheVariants.{Resize, TypeDigit}
use Rattle.minus_input.specs.declared.event_form.EventWrapper.{EventWrapper}
use Rattle.minus_input.specs.declared.event_form.EventWrapper.TheVariants.{ExactMatchEvent, WildEvent}
use Rattle.minus_input.specs.DefaultAnswers.{default_answer, down_by, steps}
use Rattle.minus_input.specs.EventForm.{same_event}
use Rattle.minus_input.specs.EventTables.{resize_key}
use Rattle.minus_input.specs.Names.{shift, control}
use Rattle.minus_input.specs.Register.{Binding, Register, bind_each, bound_to, nothing_bound, action_at}
use Rattle.minus_input.specs.RegisterAnswers.{Answering, IsAnswerOf}
use Rattle.minus_input.specs.Resolved.{default_binding}

-- a key of this code that is pressed with these modifiers
abbrev pub pressed : KeyCode → ℕ → EventWrapper
pressed code modifiers =
    ExactMatchEvent (event.Key (record {
      code = code;
      modifiers = record { 0 = modifiers };
      kind = Press;
      state = record { 0 = 0 };
    }))

-- a character's key that is pressed without modifiers
abbrev pub plain : ℕ → EventWrapper
plain character = pressed (Char character) 0

-- what is done with the mouse without modifiers
abbrev pub moused : MouseEventKind → EventWrapper
moused kind = ExactMatchEvent (event.Mouse (record { kind = kind; column = 0; row = 0; modifiers = record { 0 = 0 } }))

-- the event of a key of the table
abbrev pub event_of : EventWrapper → Event
event_of (ExactMatchEvent e) = e
event_of WildEvent = event.FocusLost

-- the keys of an action
abbrev pub row : List EventWrapper → DefaultAction → List (EventWrapper × DefaultAction)
row keys action = map (λ key. (key, action)) keys

-- the table of the default bindings, in the order in which its keys are bound
unfoldable pub default_keys : List (EventWrapper × DefaultAction)
default_keys =
    row (plain 113 ∷ pressed (Char 99) control ∷ []) Quit
    ++ row (pressed Up 0 ∷ plain 107 ∷ []) ScrollUp
    ++ row (pressed Down 0 ∷ plain 106 ∷ []) ScrollDown
    ++ row (pressed (Char 102) control ∷ []) ToggleFollow
    ++ row (pressed Enter 0 ∷ []) ScrollLines
    ++ row (plain 117 ∷ pressed (Char 117) control ∷ []) HalfPageUp
    ++ row (plain 100 ∷ pressed (Char 100) control ∷ []) HalfPageDown
    ++ row (plain 103 ∷ pressed Home 0 ∷ []) Top
    ++ row (pressed (Char 103) shift ∷ plain 71 ∷ []) GoToLine
    ++ row (pressed code.PageUp 0 ∷ []) PageUp
    ++ row (pressed code.PageDown 0 ∷ plain 32 ∷ []) PageDown
    ++ row (pressed (Char 108) control ∷ []) ToggleNumbers
    ++ row (pressed End 0 ∷ []) Bottom
    ++ row (pressed (Char 109) shift ∷ []) Help
    ++ row (plain 47 ∷ []) SearchForward
    ++ row (plain 63 ∷ []) SearchBackward
    ++ row (plain 110 ∷ []) NextMatch
    ++ row (plain 112 ∷ pressed (Char 110) shift ∷ []) PreviousMatch
    ++ row (moused mouse.ScrollUp ∷ []) WheelUp
    ++ row (moused mouse.ScrollDown ∷ []) WheelDown
    ++ row (moused (mouse.Down button.Left) ∷ []) StartSelection
    ++ row (moused (mouse.Drag button.Left) ∷ []) UpdateSelection
    ++ row (moused (mouse.Up button.Left) ∷ []) CopySelection
    ++ row (plain 121 ∷ []) CopySelection
    ++ row (pressed (Char 104) (shift + control) ∷ pressed (Char 104) control ∷ []) ToggleWrap
    ++ row (plain 104 ∷ pressed Left 0 ∷ []) ScrollLeft
    ++ row (plain 108 ∷ pressed Right 0 ∷ []) ScrollRight
    ++ row (resize_key ∷ []) Resize

-- the keys of the table, each with its binding
abbrev pub bindings_of : {C : Type 0} → List (EventWrapper × DefaultAction) → List (EventWrapper × Binding (ActionOf C))
bindings_of keys = map (λ key. (key.0, default_binding key.1)) keys

-- the keys of the table are bound, one after another, and at all other events digits are typed
abbrev pub with_defaults : {C : Type 0} → Register EventWrapper (ActionOf C) → Register EventWrapper (ActionOf C)
with_defaults old =
    record { bindings = bind_each same_event old.bindings (bindings_of default_keys); wild = Some (Default TypeDigit) }

-- the register of the default bindings alone
abbrev pub default_register : {C : Type 0} → Register EventWrapper (ActionOf C)
default_register = with_defaults nothing_bound

-- what the default bindings do at an event: the action of its key, and else digits are typed
abbrev pub default_action_at : Event → DefaultAction
default_action_at e =
    unwrap_or (bound_to same_event (bind_each same_event [] default_keys) (ExactMatchEvent e)) TypeDigit

-- what they ask for at an event in a state
abbrev pub default_asks : Event → PagerState → InputEvent
default_asks e state = default_answer (default_action_at e) e state

-- a register of the default bindings alone has this one answer to each event in each state
abbrev pub DefaultsHaveOneAnswer : {C : Type 0} → Answering C → Type 0
DefaultsHaveOneAnswer {C} Answers =
    (e : Event) (state : PagerState) (answer : Option InputEvent) →
    IsAnswerOf Answers (action_at same_event (default_register {C = C}) (ExactMatchEvent e)) e state answer
    ↔ (answer ≡ Some (default_asks e state))

-- each key of the table does what its row says: no later row binds it to something else
abbrev pub KeysDoAsListed : Type 0
KeysDoAsListed =
    AllByRecursion (λ listed. bound_to same_event (bind_each same_event [] default_keys) listed.0 ≡ Some listed.1)
    default_keys

-- the key `j` moves the mark down by as many rows as the typed prefix says
abbrev pub JScrollsDown : Type 0
JScrollsDown = (state : PagerState) → default_asks (event_of (plain 106)) state ≡ down_by state (steps state)
