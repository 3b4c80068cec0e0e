-- The numbers of enums, as they cross.
use Rattle.std.specs.Prelude.{ℕ, ◌==◌, Option, None, Some, if◌then◌else◌}
use Rattle.minus_commands.specs.declared.commands.IoCommand.{IoCommand}
use Rattle.minus_commands.specs.declared.commands.IoCommand.TheVariants as io
use Rattle.minus_state.specs.declared.search.SearchMode.{SearchMode}
use Rattle.minus_state.specs.declared.search.SearchMode.TheVariants.{Forward, Reverse, Unknown}
use Rattle.minus_state.specs.declared.state.ExitStrategy.{ExitStrategy}
use Rattle.minus_state.specs.declared.state.ExitStrategy.TheVariants.{ProcessQuit, PagerQuit}
use Rattle.minus_state.specs.declared.state.RunMode.{RunMode}
use Rattle.minus_state.specs.declared.state.RunMode.TheVariants.{Static, Dynamic}
use Rattle.minus_text.specs.declared.line_numbers.LineNumbers.{LineNumbers}
use Rattle.minus_text.specs.declared.line_numbers.LineNumbers.TheVariants.{AlwaysOn, Enabled, Disabled, AlwaysOff}

-- the mode in which a session starts that a number stands for
abbrev pub mode_of : ℕ → Option RunMode
mode_of n = if n == 0 then Some Static else if n == 1 then Some Dynamic else None

-- the setting of line numbers that a number stands for
abbrev pub line_numbers_of : ℕ → Option LineNumbers
line_numbers_of n =
    if n == 0 then Some AlwaysOn else if n == 1 then Some Enabled else if n == 2 then Some Disabled
    else if n == 3 then Some AlwaysOff else None

-- the number of a setting of line numbers
abbrev pub number_of_numbers : LineNumbers → ℕ
number_of_numbers AlwaysOn = 0
number_of_numbers Enabled = 1
number_of_numbers Disabled = 2
number_of_numbers AlwaysOff = 3

-- how the program goes on after an exit, by a number: 0 ends the process, and 1 ends the pager alone
abbrev pub exit_strategy_of : ℕ → Option ExitStrategy
exit_strategy_of n = if n == 0 then Some ProcessQuit else if n == 1 then Some PagerQuit else None

-- the direction of a search that a number stands for
abbrev pub search_mode_of : ℕ → Option SearchMode
search_mode_of n =
    if n == 0 then Some Forward else if n == 1 then Some Reverse else if n == 2 then Some Unknown else None

-- the number of the direction of a search
abbrev pub number_of_mode : SearchMode → ℕ
number_of_mode Forward = 0
number_of_mode Reverse = 1
number_of_mode Unknown = 2

-- a command that asks for a drawing
abbrev pub io_of : ℕ → ℕ → Option IoCommand
io_of n argument =
    if n == 0 then Some io.RedrawPrompt else if n == 1 then Some io.RedrawDisplay
    else if n == 2 then Some (io.SetUpperMark argument)
    else if n == 3 then Some io.FetchSearchQuery else None
