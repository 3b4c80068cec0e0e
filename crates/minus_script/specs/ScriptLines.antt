-- What a line of the script tells the session.
use Rattle.std.specs.Prelude.{List, [], ◌∷◌, string_bytes}
use Rattle.minus_state.specs.declared.search.condition.NeverShows.{NeverShows}
use Rattle.minus_script.specs.declared.keys.DefaultKeys.{DefaultKeys}
use Rattle.minus_commands.specs.Reads.{Told, an_event, wanted_of}
use Rattle.minus_script.specs.declared.script.Line.{Line}
use Rattle.minus_script.specs.declared.script.Line.TheVariants.{Command, Typed, Event}
use Rattle.minus_script.specs.Script.{one_command, all_typed}

-- what a line tells the session: one input for a command and for an event, and one for
-- each character of a text that is typed
abbrev pub told_by : Line → List (Told NeverShows DefaultKeys)
told_by (Command command) = one_command (wanted_of command)
told_by (Typed text) = all_typed (string_bytes text)
told_by (Event event) = an_event event ∷ []
