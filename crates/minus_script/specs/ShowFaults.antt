-- Why nothing is shown.
use Rattle.std.specs.Prelude.{ℕ, List}
use Rattle.minus_state.specs.declared.search.condition.NeverShows.{NeverShows}
use Rattle.minus_script.specs.declared.keys.DefaultKeys.{DefaultKeys}
use Rattle.minus_commands.specs.Reads.{Told}
use Rattle.minus_term.specs.Refusals.{Refusal, at_cleanup, refusal_of}
use Rattle.minus_script.specs.Runs.{IsRefusal}
use Rattle.minus_script.specs.declared.fault.ScriptFault.{ScriptFault}
use Rattle.minus_script.specs.declared.fault.ScriptFault.TheVariants.{Io, Line, Refused}

-- memory ran out, or the pager refuses a size
abbrev pub IsShowFault : ℕ → ℕ → List (Told NeverShows DefaultKeys) → ScriptFault → Type 0
IsShowFault cols rows told (Io stream cause) = ⊥
IsShowFault cols rows told (Line number) = ⊥
IsShowFault cols rows told (Refused cause) = IsRefusal (refusal_of cause) cols rows told

-- the sink refused a cleanup
abbrev pub IsUncleaned : Refusal → Type 0
IsUncleaned (at_cleanup cause) = Unit {0}
IsUncleaned refusal = ⊥

-- a script ended with this fault since the sink refused a cleanup
abbrev pub IsCleanupFault : ScriptFault → Type 0
IsCleanupFault (Io stream cause) = ⊥
IsCleanupFault (Line number) = ⊥
IsCleanupFault (Refused cause) = IsUncleaned (refusal_of cause)
