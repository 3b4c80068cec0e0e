-- The statuses that the program ends with.
use Rattle.std.specs.Prelude.{ℕ}
use Rattle.minus_script.specs.declared.fault.ScriptFault.TheVariants.{Io, Line, Refused}
use Rattle.minus_script.specs.declared.program.ProgramFault.{ProgramFault}
use Rattle.minus_script.specs.declared.program.ProgramFault.TheVariants.{Usage, Script}

-- 1 where input or output failed, 2 for the arguments or a line of the script, 3 where the pager refused
abbrev pub status_of : ProgramFault → ℕ
status_of Usage = 2
status_of (Script (Io stream cause)) = 1
status_of (Script (Line number)) = 2
status_of (Script (Refused cause)) = 3
