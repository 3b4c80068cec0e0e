-- The callbacks that are kept, what inputs leave of them, and which of them are called.
use Rattle.std.specs.Prelude.{◌≡◌, List, [], ◌∷◌, ◌++◌, Option, None, Some, ◌⊎◌}
use Rattle.minus_term.specs.declared.hooks.Hook.{Hook}
use Rattle.minus_term.specs.declared.hooks.Hook.TheVariants.{EofReached, PrePagerStart, PostPagerStart, PrePagerExit}
use Rattle.minus_term.specs.declared.hooks.Hook.TheVariants.{PostPagerExit}
use Rattle.minus_state.specs.Control.{Control}
use Rattle.minus_state.specs.Exits.{exits_of}
use Rattle.minus_state.specs.Hooks.{Held, held_by, none_held, added, removed, CallsAlone, CallsFor}
use Rattle.minus_commands.specs.declared.commands.CommandOf.{CommandOf}
use Rattle.minus_commands.specs.declared.commands.CommandOf.TheVariants.{AddExitCallback, AddHook, RemoveHook}
use Rattle.minus_commands.specs.declared.commands.InputOf.{InputOf}
use Rattle.minus_commands.specs.declared.commands.InputOf.TheVariants as input
use Rattle.minus_commands.specs.declared.commands.IoCommand.{IoCommand}
use Rattle.minus_commands.specs.declared.registration.Handed.{Handed}
use Rattle.minus_commands.specs.declared.registration.Handed.TheVariants as handed
use Rattle.minus_commands.specs.declared.parts.PartsOf.{PartsOf}
use Rattle.minus_commands.specs.declared.request.Request.{Request}
use Rattle.minus_commands.specs.declared.request.Request.TheVariants as request
use Rattle.minus_commands.specs.Reads.{io_wanted, wanted_of}
use Rattle.minus_commands.specs.Table.{hook_after}

-- the callbacks of hooks, each under its id, and those of an exit, each list in the order in which they were added
pub record Callbacks (H E : Type 0) : Type 0 where
  pub hooks : Held H
  pub exits : List E

-- the callbacks that these parts keep
abbrev pub callbacks_of : {P H E Q K : Type 0} → PartsOf P H E Q K → Callbacks H E
callbacks_of parts = record { hooks = held_by parts.hooks; exits = exits_of parts.exit_callbacks }

-- no callback is kept
abbrev pub no_callbacks : {H E : Type 0} → Callbacks H E
no_callbacks = record { hooks = none_held; exits = [] }

-- the callbacks that are kept after this was registered: one more, one less, or the same
abbrev pub with_handed : {P H E Q K : Type 0} → Callbacks H E → Handed P H E Q K → Callbacks H E
with_handed c (handed.ExitCallback callback) = record c { exits = c.exits ++ callback ∷ [] }
with_handed c (handed.Callback hook id callback) = record c { hooks = added c.hooks hook id callback }
with_handed c (handed.NoCallback hook id) = record c { hooks = removed c.hooks hook id }
with_handed c h = c

-- the callbacks that are kept after a request, which may register something
abbrev pub with_request : {P H E Q K : Type 0} → Callbacks H E → Request P H E Q K → Callbacks H E
with_request c (request.HandOver h) = with_handed c h
with_request c r = c

-- the callbacks that are kept after a command
abbrev pub with_command : {P H E Q K : Type 0} → Callbacks H E → CommandOf P H E Q K → Callbacks H E
with_command c (AddExitCallback callback) = record c { exits = c.exits ++ callback ∷ [] }
with_command c (AddHook hook id callback) = record c { hooks = added c.hooks hook id callback }
with_command c (RemoveHook hook id) = record c { hooks = removed c.hooks hook id }
with_command c command = c

-- the callbacks that are kept after these commands, one after another
abbrev pub with_commands : {P H E Q K : Type 0} → Callbacks H E → List (CommandOf P H E Q K) → Callbacks H E
with_commands c [] = c
with_commands c (command ∷ commands) = with_commands (with_command c command) commands

-- the callbacks that are kept after an input: an event registers nothing
abbrev pub with_input : {P H E Q K : Type 0} → Callbacks H E → InputOf P H E Q K → Callbacks H E
with_input c (input.Command command) = with_command c command
with_input c (input.Event event) = c

-- a request keeps what another one would
abbrev pub KeepsAs : {P H E Q K : Type 0} → Request P H E Q K → Request P H E Q K → Type 0
KeepsAs {H = H} {E = E} a b = (c : Callbacks H E) → with_request c a ≡ with_request c b

-- a request keeps nothing
abbrev pub KeepsNone : {P H E Q K : Type 0} → Request P H E Q K → Type 0
KeepsNone {H = H} {E = E} r = (c : Callbacks H E) → with_request c r ≡ c

-- a request leaves the callbacks that a command does
abbrev pub KeepsOf : {P H E Q K : Type 0} → CommandOf P H E Q K → Request P H E Q K → Type 0
KeepsOf {H = H} {E = E} command r = (c : Callbacks H E) → with_request c r ≡ with_command c command

-- a request leaves the callbacks that an input does
abbrev pub KeepsOfInput : {P H E Q K : Type 0} → InputOf P H E Q K → Request P H E Q K → Type 0
KeepsOfInput {H = H} {E = E} told r = (c : Callbacks H E) → with_request c r ≡ with_input c told

-- the callbacks of a hook are called, if one is due, and no others; else none
abbrev pub CallsHook : {H E : Type 0} → Option Hook → (old new : Callbacks H E) → Type 0
CallsHook hook old new = CallsFor hook old.hooks new.hooks × (new.exits ≡ old.exits)

-- by a command that asks for a drawing, from a control
abbrev pub CallsIo : {P H E Q K : Type 0} → Control → IoCommand → (old new : PartsOf P H E Q K) → Type 0
CallsIo {Q = Q} {K = K} c io old new =
    CallsHook (hook_after c (io_wanted {Q = Q} {K = K} io)) (callbacks_of old) (callbacks_of new)

-- at a start those before it, and then those after it
pub record CallsStart {H E : Type 0} (old new : Callbacks H E) : Type 0 where
  pub before : Callbacks H E
  pub first : CallsHook (Some PrePagerStart) old before
  pub then : CallsHook (Some PostPagerStart) before new

-- at an exit those of hooks before it, with those of the exit, and then those after it
pub record CallsExit {H E : Type 0} (old new : Callbacks H E) : Type 0 where
  pub before : Held H
  pub first : CallsAlone PrePagerExit old.hooks before
  pub then : CallsAlone PostPagerExit before new.hooks

-- the hook that is due once an input was performed, if one is: of a command the one that
-- the table says, of an event that of the end
abbrev pub IsDue : {P H E Q K : Type 0} → InputOf P H E Q K → Control → Option Hook → Type 0
IsDue (input.Command command) c hook = hook ≡ hook_after c (wanted_of command)
IsDue (input.Event event) c hook = (hook ≡ None) ⊎ (hook ≡ Some EofReached)
