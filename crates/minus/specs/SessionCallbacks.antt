-- What inputs to a session leave of its callbacks, and which of them are called.
use Rattle.std.specs.Prelude.{◌≡◌, Bool, true, false, Option, None, Some, is_some}
use Rattle.minus_term.specs.Refusals.{Refusal, at_cleanup}
use Rattle.minus_term.specs.declared.hooks.Hook.{Hook}
use Rattle.minus_term.specs.declared.hooks.Hook.TheVariants.{PrePagerExit}
use Rattle.minus_state.specs.Changes.{IsChange}
use Rattle.minus_state.specs.Control.{Control}
use Rattle.minus_state.specs.Hooks.{CallsAlone}
use Rattle.minus_commands.specs.declared.commands.InputOf.{InputOf}
use Rattle.minus_commands.specs.declared.request.Request.{Request}
use Rattle.minus.specs.declared.session.Core.{Core}
use Rattle.minus.specs.declared.done.Done.{Done}
use Rattle.minus.specs.declared.done.Done.TheVariants.{On, Exit as ExitsSo}
use Rattle.minus_commands.specs.declared.outcome.Outcome.{Outcome}
use Rattle.minus.specs.Core.{seen_of}
use Rattle.minus_commands.specs.Registration.{Exit}
use Rattle.minus_commands.specs.Reads.{wanted_by}
use Rattle.minus_commands.specs.Table.{hook_after, end_hook, is_at_end}
use Rattle.minus_commands.specs.Callbacks.{CallsExit, CallsHook, IsDue, callbacks_of, with_input, with_request}

-- what an outcome calls: the hook of the end, where it moves the mark and the page shows an end then
abbrev pub CallsOutcome : {S P H E Q K : Type 0} → Outcome → (old new : Core S P H E Q K) → Type 0
CallsOutcome outcome old new =
    (next : Control) → IsChange (seen_of old).control outcome.change next
    → CallsHook (end_hook (is_some outcome.moves_to) (is_at_end next)) (callbacks_of old.parts) (callbacks_of new.parts)

-- the exit that an input came to, if it is one
abbrev pub exit_in : Done → Option Exit
exit_in (On text) = None
exit_in (ExitsSo strategy code) = Some (strategy, code)

-- a request was performed: what it registers is kept, and then the callbacks of its hook are called; or it exits
abbrev pub CallsRequest : {S P H E Q K : Type 0} → Option Exit → Request P H E Q K → (old new : Core S P H E Q K)
    → Type 0
CallsRequest None r old new =
    CallsHook (hook_after (seen_of old).control (wanted_by r)) (with_request (callbacks_of old.parts) r)
    (callbacks_of new.parts)
CallsRequest (Some exit) r old new = CallsExit (callbacks_of old.parts) (callbacks_of new.parts)

-- an input was performed: what it registers is kept, and then the callbacks of the hook
-- that is due are called; or it exits
abbrev pub CallsWorked : {S P H E Q K : Type 0} → Option Exit → InputOf P H E Q K → (old new : Core S P H E Q K)
    → Type 0
CallsWorked None told old new =
    (hook : Option Hook) × IsDue told (seen_of old).control hook
    × CallsHook hook (with_input (callbacks_of old.parts) told) (callbacks_of new.parts)
CallsWorked (Some exit) told old new = CallsExit (callbacks_of old.parts) (callbacks_of new.parts)

-- an input was taken alone: while the search prompt is open no callback is called and
-- none is kept; otherwise the input is performed
abbrev pub CallsWhen : {S P H E Q K : Type 0} → (is_searching : Bool) → Option Exit → InputOf P H E Q K
    → (old new : Core S P H E Q K) → Type 0
CallsWhen true exit told old new = callbacks_of new.parts ≡ callbacks_of old.parts
CallsWhen false exit told old new = CallsWorked exit told old new

-- an input was taken alone by a session: with its search prompt open no callback is called and
-- none is kept; otherwise the input is performed
abbrev pub CallsTaken : {S P H E Q K : Type 0} → (old : Core S P H E Q K) → InputOf P H E Q K → (new : Core S P H E Q K)
    → Option Exit → Type 0
CallsTaken old told new exit = CallsWhen (is_some (seen_of old).control.search) exit told old new

-- an input was not taken: where the sink refused the cleanup of an exit, the callbacks of hooks before it were called,
-- and those after it not; else none were, and all are kept as they were
abbrev pub CallsUntaken : {S P H E Q K : Type 0} → Refusal → (old new : Core S P H E Q K) → Type 0
CallsUntaken (at_cleanup cause) old new =
    CallsAlone PrePagerExit (callbacks_of old.parts).hooks (callbacks_of new.parts).hooks
CallsUntaken refusal old new = callbacks_of new.parts ≡ callbacks_of old.parts
