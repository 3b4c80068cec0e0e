-- The kind of each refusal.
use Rattle.std.specs.Prelude.{ℕ}
use Rattle.minus_term.specs.declared.error.SetupError.{SetupError}
use Rattle.minus_term.specs.declared.error.CleanupError.{CleanupError}
use Rattle.minus_term.specs.declared.error.DescriptionError.{DescriptionError}
use Rattle.minus_term.specs.declared.error.MinusError.{MinusError}
use Rattle.minus_term.specs.declared.hooks.Hook.{Hook}
use Rattle.minus_term.specs.declared.error.MinusError.TheVariants.{Memory, NewlineInPrompt, HookIdTaken, NoFreeHookId}
use Rattle.minus_term.specs.declared.error.MinusError.TheVariants.{BadSize, BadDescription, Bound, QueryFull, BadMode}
use Rattle.minus_term.specs.declared.error.MinusError.TheVariants.{Failed, Ended, Setup, Cleanup, Draw, HandleEvent}
use Rattle.minus_term.specs.declared.error.MinusError.TheVariants.{Cursor, FmtWriteError, Conversion, SearchExpError}

-- the kinds of refusals that contracts tell apart: out of memory; for a newline, a hook's id, a size, a description, a
-- binding, a query or a mode; after a failure or an exit; by the sink, at the setup, the cleanup or a drawing; for a
-- pattern; and those that no call of the pager answers
pub data Refusal : Type 0 where
  for_memory : Refusal
  for_newline : Refusal
  for_hook_id : Hook → (id : ℕ) → Refusal
  for_free_hook_id : Refusal
  for_size : (columns rows : ℕ) → Refusal
  for_description : (place : ℕ) → DescriptionError → Refusal
  for_binding : (place : ℕ) → Refusal
  for_query : Refusal
  for_mode : Refusal
  after_failure : Refusal
  after_exit : Refusal
  at_setup : SetupError → Refusal
  at_cleanup : CleanupError → Refusal
  at_drawing : Refusal
  for_pattern : Refusal
  of_no_call : Refusal

-- the kind of refusal that an error is
abbrev pub refusal_of : MinusError → Refusal
refusal_of Memory = for_memory
refusal_of NewlineInPrompt = for_newline
refusal_of (HookIdTaken hook id) = for_hook_id hook id
refusal_of NoFreeHookId = for_free_hook_id
refusal_of (BadSize columns rows) = for_size columns rows
refusal_of (BadDescription place cause) = for_description place cause
refusal_of (Bound place) = for_binding place
refusal_of QueryFull = for_query
refusal_of BadMode = for_mode
refusal_of Failed = after_failure
refusal_of Ended = after_exit
refusal_of (Setup cause) = at_setup cause
refusal_of (Cleanup cause) = at_cleanup cause
refusal_of (Draw cause) = at_drawing
refusal_of (SearchExpError cause) = for_pattern
refusal_of e = of_no_call
