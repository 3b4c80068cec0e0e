-- The classes of refusals.
use Rattle.std.specs.Prelude.{Bool, true, false}
use Rattle.minus_term.specs.Refusals.{Refusal, for_memory, after_failure, after_exit, at_setup, at_cleanup, at_drawing}
use Rattle.minus_term.specs.Refusals.{of_no_call}
use Rattle.minus_term.specs.declared.error.CleanupError.{CleanupError}
use Rattle.minus.specs.declared.status.Status.{Status}
use Rattle.minus.specs.declared.status.Status.TheVariants as stands

-- why a step is refused
pub data Class : Type 0 where
  -- memory ran out
  memory : Class
  -- what was asked for cannot be done
  unfit : Class
  -- the session stands so: it had failed or exited before
  over : Status → Class
  -- the sink refused this part of the cleanup
  cleanup : CleanupError → Class
  -- the sink refused a drawing
  drawing : Class
  -- no step is refused so
  never : Class

-- the class of a refusal: what is of no other one is for what was asked for
abbrev pub class_of : Refusal → Class
class_of for_memory = memory
class_of after_failure = over stands.Failed
class_of after_exit = over stands.Ended
class_of (at_setup cause) = never
class_of (at_cleanup cause) = cleanup cause
class_of at_drawing = drawing
class_of of_no_call = never
class_of refusal = unfit

-- whether it is for what was asked for
abbrev pub is_unfit : Class → Bool
is_unfit unfit = true
is_unfit class = false
