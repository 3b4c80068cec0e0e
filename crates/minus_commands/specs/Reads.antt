-- What contracts read of the state, of commands and inputs.
use Rattle.std.specs.Prelude.{string_bytes, length, Option, None, Some, ◌≡◌, ℕ, List}
use Rattle.std.specs.Option.{option_map}
use Rattle.minus_term.specs.declared.event.Event.{Event}
use Rattle.minus_commands.specs.declared.commands.CommandOf.{CommandOf}
use Rattle.minus_commands.specs.declared.commands.CommandOf.TheVariants.{SetData, AppendData, SetPrompt, SendMessage}
use Rattle.minus_commands.specs.declared.commands.CommandOf.TheVariants.{ShowPrompt, SetLineNumbers, LineWrapping}
use Rattle.minus_commands.specs.declared.commands.CommandOf.TheVariants.{SetMatchLines, SetCarryStyle, FollowOutput}
use Rattle.minus_commands.specs.declared.commands.CommandOf.TheVariants.{UserInput, Io, SetExitStrategy}
use Rattle.minus_commands.specs.declared.commands.CommandOf.TheVariants.{SetRunNoOverflow, AddExitCallback, AddHook}
use Rattle.minus_commands.specs.declared.commands.CommandOf.TheVariants.{RemoveHook, IncrementalSearchCondition}
use Rattle.minus_commands.specs.declared.commands.CommandOf.TheVariants.{SetInputClassifier}
use Rattle.minus_commands.specs.declared.registration.Handed.{Handed}
use Rattle.minus_commands.specs.declared.registration.Handed.TheVariants as handed
use Rattle.minus_commands.specs.declared.parts.PartsOf.{PartsOf}
use Rattle.minus_commands.specs.Registration.{Handing, Kept, a_classifier, a_condition, an_exit_callback, a_callback}
use Rattle.minus_commands.specs.Registration.{no_callback, a_strategy, a_run_no_overflow}
use Rattle.minus_state.specs.Hooks.{held_by}
use Rattle.minus_state.specs.Exits.{exits_of}
use Rattle.minus_commands.specs.declared.commands.IoCommand.{IoCommand}
use Rattle.minus_commands.specs.declared.commands.IoCommand.TheVariants.{RedrawPrompt, RedrawDisplay, DrawAppendedText}
use Rattle.minus_commands.specs.declared.commands.IoCommand.TheVariants.{SetUpperMark, FetchSearchQuery}
use Rattle.minus_commands.specs.declared.commands.InputOf.{InputOf}
use Rattle.minus_commands.specs.declared.commands.InputOf.TheVariants as input
use Rattle.minus_state.specs.declared.input.InputEvent.{InputEvent}
use Rattle.minus_state.specs.declared.input.InputEvent.TheVariants as events
use Rattle.minus_commands.specs.declared.request.Request.{Request}
use Rattle.minus_commands.specs.declared.request.Request.TheVariants as request
use Rattle.minus_commands.specs.Table.{Wanted, sets_data, appends_data, moves_mark, resizes, exits, ignores}
use Rattle.minus_commands.specs.Table.{sets_prompt, sends_message, shows_prompt, follows, types, restores_prompt}
use Rattle.minus_commands.specs.Table.{redraws_prompt, redraws_page, hands_over, sets_numbers, sets_wrapping}
use Rattle.minus_commands.specs.Table.{sets_match_lines, sets_carry_style, shifts, starts_selection, updates_selection}
use Rattle.minus_commands.specs.Table.{clears_selection, copies_selection, shows_help, moves_to_next_match}
use Rattle.minus_commands.specs.Table.{moves_to_prev_match, searches, fetches_query}
use Rattle.minus_state.specs.Classifying.{Classifies}
use Rattle.minus_state.specs.Control.{Saved}

-- what an event of the pager asks for
abbrev pub event_wanted : {Q K : Type 0} → InputEvent → Wanted Q K
event_wanted (events.UpdateUpperMark mark) = moves_mark mark
event_wanted (events.UpdateTermArea cols rows) = resizes cols rows
event_wanted (events.UpdateLeftMark left) = shifts left
event_wanted (events.UpdateLineNumber numbers) = sets_numbers numbers
event_wanted (events.StartSelection x y) = starts_selection x y
event_wanted (events.UpdateSelection x y) = updates_selection x y
event_wanted events.ClearSelection = clears_selection
event_wanted events.CopySelection = copies_selection
event_wanted (events.Search mode) = searches mode
event_wanted events.NextMatch = moves_to_next_match 1
event_wanted events.PrevMatch = moves_to_prev_match 1
event_wanted (events.MoveToNextMatch jump) = moves_to_next_match jump
event_wanted (events.MoveToPrevMatch jump) = moves_to_prev_match jump
event_wanted (events.HorizontalScroll wrapping) = sets_wrapping wrapping
event_wanted (events.FollowOutput follow) = follows follow
event_wanted events.RestorePrompt = restores_prompt
event_wanted events.ShowHelp = shows_help None
event_wanted (events.Number character) = types character
event_wanted events.Exit = exits
event_wanted events.Ignore = ignores

-- what a command that asks for a drawing asks for
abbrev pub io_wanted : {Q K : Type 0} → IoCommand → Wanted Q K
io_wanted RedrawPrompt = redraws_prompt
io_wanted RedrawDisplay = redraws_page
io_wanted (DrawAppendedText unfinished rows style) = redraws_page
io_wanted (SetUpperMark mark) = moves_mark mark
io_wanted FetchSearchQuery = fetches_query

-- what a classifier's answer asks for: no answer, nothing
abbrev pub answer_wanted : {Q K : Type 0} → Option InputEvent → Wanted Q K
answer_wanted None = ignores
answer_wanted (Some event) = event_wanted event

-- what a command asks for
abbrev pub wanted_of : {P H E Q K : Type 0} → CommandOf P H E Q K → Wanted Q K
wanted_of (SetData text) = sets_data (string_bytes text)
wanted_of (AppendData text) = appends_data (string_bytes text)
wanted_of (SetPrompt text) = sets_prompt (string_bytes text)
wanted_of (SendMessage text) = sends_message (string_bytes text)
wanted_of (ShowPrompt is_shown) = shows_prompt is_shown
wanted_of (SetLineNumbers numbers) = sets_numbers numbers
wanted_of (LineWrapping wrapping) = sets_wrapping wrapping
wanted_of (SetMatchLines match_lines) = sets_match_lines match_lines
wanted_of (SetCarryStyle carry_style) = sets_carry_style carry_style
wanted_of (FollowOutput follow) = follows follow
wanted_of (UserInput event) = event_wanted event
wanted_of (Io command) = io_wanted command
wanted_of (SetExitStrategy strategy) = hands_over (a_strategy strategy)
wanted_of (SetRunNoOverflow on) = hands_over (a_run_no_overflow on)
wanted_of (AddExitCallback callback) = hands_over an_exit_callback
wanted_of (AddHook hook id callback) = hands_over (a_callback hook id)
wanted_of (RemoveHook hook id) = hands_over (no_callback hook id)
wanted_of (IncrementalSearchCondition condition) = hands_over (a_condition condition)
wanted_of (SetInputClassifier classifier) = hands_over (a_classifier classifier)

-- the command that asks for a drawing, if it is one
abbrev pub io_of : {P H E Q K : Type 0} → CommandOf P H E Q K → Option IoCommand
io_of (Io command) = Some command
io_of command = None

-- the command that it is
abbrev pub as_command : {P H E Q K : Type 0} → IoCommand → CommandOf P H E Q K
as_command command = Io command

-- what a session is told: a command, or an event of the terminal
pub data Told (Q K : Type 0) : Type 0 where
  a_command : Wanted Q K → Told Q K
  an_event : Event → Told Q K

-- an input as values alone: what a command asks for, or an event as it is
abbrev pub told_of : {P H E Q K : Type 0} → InputOf P H E Q K → Told Q K
told_of (input.Command command) = a_command (wanted_of command)
told_of (input.Event event) = an_event event

-- what is registered, as values alone
abbrev pub handing_of : {P H E Q K : Type 0} → Handed P H E Q K → Handing Q K
handing_of (handed.Classifier classifier) = a_classifier classifier
handing_of (handed.Condition condition) = a_condition condition
handing_of (handed.ExitCallback callback) = an_exit_callback
handing_of (handed.Callback hook id callback) = a_callback hook id
handing_of (handed.NoCallback hook id) = no_callback hook id
handing_of (handed.Strategy strategy) = a_strategy strategy
handing_of (handed.RunNoOverflow on) = a_run_no_overflow on

-- what is kept beside the state, the classifier and the condition
abbrev pub kept_of : {P H E Q K : Type 0} → PartsOf P H E Q K → Kept
kept_of parts = record {
  ids = (held_by parts.hooks).ids;
  exit_callbacks = length (exits_of parts.exit_callbacks);
  exit = (parts.exit_strategy, parts.exit_code);
  run_no_overflow = parts.run_no_overflow;
}

-- what a request asks for
abbrev pub wanted_by : {P H E Q K : Type 0} → Request P H E Q K → Wanted Q K
wanted_by (request.SetText text) = sets_data (string_bytes text)
wanted_by (request.AppendText text) = appends_data (string_bytes text)
wanted_by (request.MoveMark mark) = moves_mark mark
wanted_by (request.Resize cols rows) = resizes cols rows
wanted_by request.Exit = exits
wanted_by request.Ignore = ignores
wanted_by (request.SetPrompt text) = sets_prompt (string_bytes text)
wanted_by (request.SendMessage text) = sends_message (string_bytes text)
wanted_by (request.ShowPrompt is_shown) = shows_prompt is_shown
wanted_by (request.Follow follow) = follows follow
wanted_by (request.Type character) = types character
wanted_by request.RestorePrompt = restores_prompt
wanted_by request.RedrawPrompt = redraws_prompt
wanted_by request.RedrawPage = redraws_page
wanted_by (request.HandOver handed) = hands_over (handing_of handed)
wanted_by (request.SetNumbers numbers) = sets_numbers numbers
wanted_by (request.SetWrapping wrapping) = sets_wrapping wrapping
wanted_by (request.SetMatchLines match_lines) = sets_match_lines match_lines
wanted_by (request.SetCarryStyle carry_style) = sets_carry_style carry_style
wanted_by (request.ShiftLeft left) = shifts left
wanted_by (request.StartSelection x y) = starts_selection x y
wanted_by (request.UpdateSelection x y) = updates_selection x y
wanted_by request.ClearSelection = clears_selection
wanted_by request.CopySelection = copies_selection
wanted_by (request.ShowHelp text) = shows_help (option_map string_bytes text)
wanted_by (request.MoveToNextMatch jump) = moves_to_next_match jump
wanted_by (request.MoveToPrevMatch jump) = moves_to_prev_match jump
wanted_by (request.Search mode) = searches mode
wanted_by request.FetchSearchQuery = fetches_query

-- the text that help is opened with, if there is one: the classifier may give it; where
-- help is open, the classifier is not asked
abbrev pub IsHelpText : {K : Type 0} → Classifies K → K → Option Saved → Option (List ℕ) → Type 0
IsHelpText says classifier None text = says.helps classifier text
IsHelpText says classifier (Some saved) text = text ≡ None

-- the request that is made of what is asked for, with this classifier, and with this saved where help is open: a
-- request for help has the text that help is opened with
abbrev pub IsRequest : {Q K : Type 0} → Classifies K → K → Option Saved → Wanted Q K → Wanted Q K → Type 0
IsRequest says classifier help (shows_help asked) wanted =
    (text : Option (List ℕ)) × IsHelpText says classifier help text × (wanted ≡ shows_help text)
IsRequest says classifier help asked wanted = wanted ≡ asked
