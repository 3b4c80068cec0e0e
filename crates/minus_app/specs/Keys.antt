-- The keys of an application: what an event leads to, which keys stay what they are, and whether one ends the program.
use Rattle.std.specs.Prelude.{◌≡◌, ℕ, Bool, true, List, slice_get, is_some, Option, None, Some, if◌then◌else◌, ◌||◌}
use Rattle.std.specs.Prelude.{◌&&◌, not}
use Rattle.std.specs.Option.{option_and_then}
use Rattle.minus_term.specs.declared.event.Event.{Event}
use Rattle.minus_state.specs.Help.{help_open}
use Rattle.minus_state.specs.States.{control_of}
use Rattle.minus_state.specs.declared.state.PagerState.{PagerState}
use Rattle.minus_input.specs.declared.bound.ActionOf.{ActionOf}
use Rattle.minus_input.specs.declared.event_form.EventWrapper.{EventWrapper}
use Rattle.minus_input.specs.declared.event_form.EventWrapper.TheVariants.{ExactMatchEvent}
use Rattle.minus_input.specs.EventForm.{same_event}
use Rattle.minus_input.specs.EventTables.{register_of}
use Rattle.minus_input.specs.Register.{Register, action_at, bound_to}
use Rattle.minus_app.specs.Actions.{ends_program, own_number, view_action}
use Rattle.minus_app.specs.declared.keys.AppKeys.{AppKeys}
use Rattle.minus_app.specs.declared.keys.KeyAction.{KeyAction}
use Rattle.minus_app.specs.declared.view_action.ViewAction.{ViewAction}
use Rattle.minus_app.specs.Moves.{holds_in_help}

-- what a register does at an event
abbrev pub done_by : Register EventWrapper (ActionOf KeyAction) → Event → Option (ActionOf KeyAction)
done_by register event = action_at same_event register (ExactMatchEvent event)

-- what the keys of an application are bound to
abbrev pub keyed : {A : Type 0} → AppKeys A → Register EventWrapper (ActionOf KeyAction)
keyed keys = register_of keys.table

-- what is done at an event
abbrev pub done_at : {A : Type 0} → AppKeys A → Event → Option (ActionOf KeyAction)
done_at keys event = done_by (keyed keys) event

-- the application's action that an event leads to
abbrev pub act_at : {A : Type 0} → AppKeys A → Event → Option A
act_at keys event = option_and_then (slice_get keys.acts.items) (own_number (done_at keys event))

-- each key that led to something by itself leads to the same: nothing that was bound is hidden
abbrev pub HidesNothing : (old new : Register EventWrapper (ActionOf KeyAction)) → Type 0
HidesNothing old new =
    (key : EventWrapper) → is_some (bound_to same_event old.bindings key) ≡ true →
    bound_to same_event new.bindings key ≡ bound_to same_event old.bindings key

-- some event ends the program
abbrev pub SomeEnds : {A : Type 0} → AppKeys A → Type 0
SomeEnds keys = (event : Event) × (ends_program (done_at keys event) ≡ true)

-- the number of the application's action that is done on a page: while help or the search prompt is open, each key is
-- the pager's
abbrev pub own_number_at : PagerState → Register EventWrapper (ActionOf KeyAction) → Event → Option ℕ
own_number_at state register event =
    if help_open (control_of state) || is_some (control_of state).search then None
    else own_number (done_by register event)

-- the application's action that is done on a page, of those that it has
abbrev pub own_act_at : {A : Type 0} → List A → PagerState → Register EventWrapper (ActionOf KeyAction) → Event
    → Option A
own_act_at acts state register event = option_and_then (slice_get acts) (own_number_at state register event)

-- what the pager does beside the default actions: while help is open, only what moves its page
abbrev pub held : Bool → Option ViewAction → Option ViewAction
held help None = None
held help (Some action) = if help && not (holds_in_help action) then None else Some action

-- what the pager does at an event in a state beside the default actions: while help is open, only what moves its page
abbrev pub view_action_at : PagerState → Register EventWrapper (ActionOf KeyAction) → Event → Option ViewAction
view_action_at state register event = held (help_open (control_of state)) (view_action (done_by register event))
