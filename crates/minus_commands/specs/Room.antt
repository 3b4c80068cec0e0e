-- Room for callbacks.
use Rattle.std.specs.Prelude.{ℕ}
use Rattle.minus_state.specs.Hooks.{HasRoom}
use Rattle.minus_state.specs.Exits.{HasExitRoom}
use Rattle.minus_commands.specs.declared.parts.PartsOf.{PartsOf}

-- `more` callbacks, of hooks or of an exit, can be added without allocation
pub record HasRoomFor {P H E Q K : Type 0} (parts : PartsOf P H E Q K) (more : ℕ) : Type 0 where
  pub hooks : HasRoom parts.hooks more
  pub exits : HasExitRoom parts.exit_callbacks more
