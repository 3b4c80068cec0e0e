-- A run of the program on the words after its name.
use Rattle.std.specs.Prelude.{◌≡◌, ℕ, List, Option, None, Some}
use Rattle.minus_script.specs.declared.arguments.Arguments.{Arguments}
use Rattle.minus_script.specs.declared.program.ProgramFault.{ProgramFault}
use Rattle.minus_script.specs.declared.program.ProgramFault.TheVariants.{Usage, Script}
use Rattle.minus_script.specs.ProgramArguments.{arguments_of}
use Rattle.minus_script.specs.Runs.{IsScriptRun, IsRunFault, IsBeforePrinting}

-- the words are arguments, and the script was run by them
abbrev pub IsProgramRun : List (List ℕ) → Option (List ℕ) → Option (List ℕ) → Option (List ℕ) → Option (List ℕ) → Type 0
IsProgramRun words old_input new_input old_output new_output =
    (a : Arguments) × (arguments_of words ≡ Some a)
    × IsScriptRun a.mode a.cols a.rows old_input new_input old_output new_output

-- the words are no arguments, or they are and the script is refused
abbrev pub IsProgramFault : List (List ℕ) → Option (List ℕ) → Option (List ℕ) → Option (List ℕ) → Option (List ℕ)
    → ProgramFault → Type 0
IsProgramFault words old_input new_input old_output new_output Usage = arguments_of words ≡ None
IsProgramFault words old_input new_input old_output new_output (Script fault) =
    (a : Arguments) × (arguments_of words ≡ Some a)
    × IsRunFault a.mode a.cols a.rows old_input new_input old_output new_output fault

module _ {R W : Type 0} (remaining : R → Option (List ℕ)) (contents : W → Option (List ℕ)) (words : List (List ℕ))
    (in_old in_new : R) (out_old out_new : W) where
  -- the program was run over a reader, by what remains in it, and a writer, by what it holds: the words
  -- are arguments, and the script was run by them
  abbrev pub ProgramRuns : Type 0
  ProgramRuns = IsProgramRun words (remaining in_old) (remaining in_new) (contents out_old) (contents out_new)

  -- the run of the program over a reader and a writer ends with this fault: the words are no
  -- arguments, or they are and the script is refused
  abbrev pub ProgramFails : ProgramFault → Type 0
  ProgramFails fault =
      IsProgramFault words (remaining in_old) (remaining in_new) (contents out_old) (contents out_new) fault

-- a fault that came before anything was printed
abbrev pub IsSilent : ProgramFault → Type 0
IsSilent Usage = Unit {0}
IsSilent (Script fault) = IsBeforePrinting fault
