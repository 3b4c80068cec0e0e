-- What a session is seen as.
use Rattle.std.specs.Prelude.{List, Option}
use Rattle.minus_state.specs.declared.state.RunMode.{RunMode}
use Rattle.minus.specs.declared.status.Status.{Status}
use Rattle.minus_state.specs.Control.{Control}
use Rattle.minus_commands.specs.Registration.{Kept}
use Rattle.minus_commands.specs.Reads.{Told}

-- the control, the classifier and the condition of an incremental search that are kept, where one is: without one it is
-- the default, what else is kept, the mode of the session, the inputs that wait for the search prompt to close, in
-- their order, and whether it runs, has exited or has failed
pub record Seen (Q K : Type 0) : Type 0 where
  pub control : Control
  pub classifier : K
  pub condition : Option Q
  pub kept : Kept
  pub mode : RunMode
  pub waiting : List (Told Q K)
  pub status : Status
