-- How the printing may fail.
use Rattle.std.specs.Prelude.{◌≡◌}
use Rattle.minus_script.specs.declared.fault.Stream.TheVariants.{Output}
use Rattle.minus_script.specs.declared.fault.ScriptFault.{ScriptFault}
use Rattle.minus_script.specs.declared.fault.ScriptFault.TheVariants.{Io, Line, Refused}

-- standard output failed
abbrev pub IsWriteFault : ScriptFault → Type 0
IsWriteFault (Io stream cause) = stream ≡ Output
IsWriteFault (Line number) = ⊥
IsWriteFault (Refused cause) = ⊥
