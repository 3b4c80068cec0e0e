-- What a key of an application asks the session for, and which of the application's actions is done.
use Rattle.std.specs.Prelude.{ℕ, Option, None, Some, Bool, true, false}
use Rattle.minus_term.specs.declared.event.Event.{Event}
use Rattle.minus_state.specs.declared.input.InputEvent.{InputEvent}
use Rattle.minus_state.specs.declared.input.InputEvent.TheVariants.{Ignore}
use Rattle.minus_state.specs.declared.state.PagerState.{PagerState}
use Rattle.minus_input.specs.DefaultAnswers.{default_answer}
use Rattle.minus_input.specs.declared.default_action.DefaultAction.{DefaultAction}
use Rattle.minus_input.specs.declared.default_action.DefaultAction.TheVariants.{Quit}
use Rattle.minus_input.specs.declared.bound.ActionOf.{ActionOf}
use Rattle.minus_input.specs.declared.bound.ActionOf.TheVariants.{Default, Callback}
use Rattle.minus_app.specs.declared.keys.KeyAction.{KeyAction}
use Rattle.minus_app.specs.declared.view_action.ViewAction.{ViewAction}
use Rattle.minus_app.specs.declared.keys.KeyAction.TheVariants.{Pager, View, Own}

-- an action of the pager's as the default register has it, and nothing where the program does it beside the session
abbrev pub key_answer : KeyAction → Event → PagerState → InputEvent
key_answer (Pager action) event state = default_answer action event state
key_answer (View action) event state = Ignore
key_answer (Own number) event state = Ignore

-- the number of the application's action, where that is what is done
abbrev pub own_number : Option (ActionOf KeyAction) → Option ℕ
own_number None = None
own_number (Some (Default action)) = None
own_number (Some (Callback (Pager action))) = None
own_number (Some (Callback (View action))) = None
own_number (Some (Callback (Own number))) = Some number

-- the action of the pager's, where that is what is done
abbrev pub pager_action : Option (ActionOf KeyAction) → Option DefaultAction
pager_action None = None
pager_action (Some (Default action)) = Some action
pager_action (Some (Callback (Pager action))) = Some action
pager_action (Some (Callback (View action))) = None
pager_action (Some (Callback (Own number))) = None

-- what the pager does beside the default actions, where that is what is done
abbrev pub view_action : Option (ActionOf KeyAction) → Option ViewAction
view_action None = None
view_action (Some (Default action)) = None
view_action (Some (Callback (Pager action))) = None
view_action (Some (Callback (View action))) = Some action
view_action (Some (Callback (Own number))) = None

-- whether that ends the program
abbrev pub is_quit : Option DefaultAction → Bool
is_quit None = false
is_quit (Some Quit) = true
is_quit (Some action) = false

-- whether what is done at a key ends the program
abbrev pub ends_program : Option (ActionOf KeyAction) → Bool
ends_program action = is_quit (pager_action action)
