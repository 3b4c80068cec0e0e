-- The program's arguments.
use Rattle.std.specs.Prelude.{ℕ, List, [], ◌∷◌, Option, Some, None, bytes_eq, codes, if◌then◌else◌}
use Rattle.minus_input.specs.Number.{usize_of}
use Rattle.minus_script.specs.declared.arguments.Mode.{Mode}
use Rattle.minus_script.specs.declared.arguments.Mode.TheVariants.{Page, Bytes}
use Rattle.minus_script.specs.declared.arguments.Arguments.{Arguments}

-- the mode with a name
abbrev pub mode_named : List ℕ → Option Mode
mode_named name =
    if bytes_eq name (codes "page") then Some Page else if bytes_eq name (codes "bytes") then Some Bytes else None

-- the arguments of a mode, a number of columns and a number of rows, if all of them are there
abbrev pub arguments_from : Option Mode → Option ℕ → Option ℕ → Option Arguments
arguments_from (Some m) (Some c) (Some r) = Some (record { mode = m; cols = c; rows = r })
arguments_from (Some m) (Some c) None = None
arguments_from (Some m) None rows = None
arguments_from None cols rows = None

-- the arguments: a mode's name, the columns and the rows, and nothing else
abbrev pub arguments_of : List (List ℕ) → Option Arguments
arguments_of (mode ∷ cols ∷ rows ∷ []) = arguments_from (mode_named mode) (usize_of cols) (usize_of rows)
arguments_of other = None
