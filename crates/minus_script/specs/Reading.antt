-- How the reading of a script may fail.
use Rattle.std.specs.Prelude.{◌≡◌, ℕ, List, Option}
use Rattle.std.specs.Io.KnownBytes.{Consumes}
use Rattle.minus_term.specs.declared.error.MinusError.TheVariants.{Memory}
use Rattle.minus_script.specs.declared.fault.Stream.TheVariants.{Input}
use Rattle.minus_script.specs.declared.fault.ScriptFault.{ScriptFault}
use Rattle.minus_script.specs.declared.fault.ScriptFault.TheVariants.{Io, Line, Refused}

-- standard input failed, or memory ran out
abbrev pub IsReadFault : ScriptFault → Type 0
IsReadFault (Io stream cause) = stream ≡ Input
IsReadFault (Line number) = ⊥
IsReadFault (Refused cause) = cause ≡ Memory

-- known bytes lose some at their front
abbrev pub ConsumesSome : Option (List ℕ) → Option (List ℕ) → Type 0
ConsumesSome old new = (bytes : List ℕ) × Consumes old new bytes
