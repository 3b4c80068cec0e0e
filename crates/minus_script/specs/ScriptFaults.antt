-- The faults of a script.
use Rattle.std.specs.Prelude.{◌≡◌, ℕ, List, Result, Err}
use Rattle.minus_state.specs.declared.search.condition.NeverShows.{NeverShows}
use Rattle.minus_script.specs.declared.keys.DefaultKeys.{DefaultKeys}
use Rattle.minus_commands.specs.Reads.{Told}
use Rattle.minus_term.specs.declared.error.MinusError.TheVariants.{Memory}
use Rattle.minus_script.specs.declared.fault.ScriptFault.{ScriptFault}
use Rattle.minus_script.specs.declared.fault.ScriptFault.TheVariants.{Io, Line, Refused}

-- the fault names the first faulty line, or is for memory
abbrev pub IsScriptFault : Result (List (Told NeverShows DefaultKeys)) ℕ → ScriptFault → Type 0
IsScriptFault told (Io stream cause) = ⊥
IsScriptFault told (Line number) = told ≡ Err number
IsScriptFault told (Refused cause) = cause ≡ Memory
