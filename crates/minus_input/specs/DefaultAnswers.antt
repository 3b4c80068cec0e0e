-- What the default actions answer to an event in a state.
use Rattle.std.specs.Prelude.{ℕ, ◌+◌, ◌-◌, ◌/◌, ◌^◌, ◌==◌, min, not, Option, None, Some, is_some, slice_get}
use Rattle.std.specs.Prelude.{unwrap_or, if◌then◌else◌}
use Rattle.minus_term.specs.PageRows.{page_len}
use Rattle.minus_term.specs.declared.event.Event.{Event}
use Rattle.minus_term.specs.declared.event.Event.TheVariants.{Mouse, Resize}
use Rattle.minus_text.specs.NumberPrefix.{toggled}
use Rattle.minus_text.specs.Document.{line_map}
use Rattle.minus_state.specs.declared.input.InputEvent.{InputEvent}
use Rattle.minus_state.specs.declared.input.InputEvent.TheVariants as asks
use Rattle.minus_state.specs.declared.search.SearchMode.{SearchMode}
use Rattle.minus_state.specs.declared.search.SearchMode.TheVariants.{Forward, Reverse, Unknown}
use Rattle.minus_state.specs.declared.state.PagerState.{PagerState}
use Rattle.minus_state.specs.Control.{Control}
use Rattle.minus_state.specs.States.{control_of}
use Rattle.minus_state.specs.TypedPrefix.{typed_digit}
use Rattle.minus_input.specs.declared.default_action.DefaultAction.{DefaultAction}
use Rattle.minus_input.specs.declared.default_action.DefaultAction.TheVariants as action
use Rattle.minus_input.specs.Number.{usize_of}

-- the greatest `usize`
abbrev pub max : ℕ
max = 2 ^ 64 - 1

-- the number that the typed prefix writes
abbrev pub typed : PagerState → Option ℕ
typed state = usize_of (control_of state).settings.prefix

-- the number that the typed prefix of a control writes, 1 where it writes none
abbrev pub steps_of : Control → ℕ
steps_of c = unwrap_or (usize_of c.settings.prefix) 1

-- the number that the typed prefix of a state writes, 1 where it writes none
abbrev pub steps : PagerState → ℕ
steps state = steps_of (control_of state)

-- the mark moves up by a number of rows, not above the first row
abbrev pub up_by : PagerState → ℕ → InputEvent
up_by state rows = asks.UpdateUpperMark ((control_of state).mark - rows)

-- the mark moves down by a number of rows, not beyond the greatest number
abbrev pub down_by : PagerState → ℕ → InputEvent
down_by state rows = asks.UpdateUpperMark (min ((control_of state).mark + rows) max)

-- the left mark moves to the left by a number of columns, not beyond the first column
abbrev pub left_by : PagerState → ℕ → InputEvent
left_by state columns = asks.UpdateLeftMark ((control_of state).left - columns)

-- the left mark moves to the right by a number of columns, not beyond the greatest number
abbrev pub right_by : PagerState → ℕ → InputEvent
right_by state columns = asks.UpdateLeftMark (min ((control_of state).left + columns) max)

-- half of the number of the terminal's rows, rounded down
abbrev pub half_page : PagerState → ℕ
half_page state = (control_of state).rows / 2

-- the number of rows of text on a page
abbrev pub page : PagerState → ℕ
page state = page_len (control_of state).rows

-- the message goes if there is one; else the mark moves down
abbrev pub restore_or_down : PagerState → InputEvent
restore_or_down state =
    if is_some (control_of state).settings.message then asks.RestorePrompt else down_by state (steps state)

-- the first row of the line that the typed prefix names, counted from 1
abbrev pub row_of_line : PagerState → Option ℕ → Option ℕ
row_of_line state None = None
row_of_line state (Some number) = if number == 0 then None else slice_get (line_map state.screen.document) (number - 1)

-- the mark that stands for the last page: the greatest number less one
abbrev pub bottom_mark : ℕ
bottom_mark = max - 1

-- the last page is shown
abbrev pub bottom : InputEvent
bottom = asks.UpdateUpperMark bottom_mark

-- the mark moves to the first row of the line that the typed prefix names, counted from 1;
-- to the bottom where the prefix names no line
abbrev pub to_line : PagerState → InputEvent
to_line state = asks.UpdateUpperMark (unwrap_or (row_of_line state (typed state)) bottom_mark)

-- a selection begins where the mouse is; any other event asks for nothing
abbrev pub selection_start : Event → InputEvent
selection_start (Mouse mouse) = asks.StartSelection mouse.column mouse.row
selection_start event = asks.Ignore

-- a selection is dragged to where the mouse is; any other event asks for nothing
abbrev pub selection_update : Event → InputEvent
selection_update (Mouse mouse) = asks.UpdateSelection mouse.column mouse.row
selection_update event = asks.Ignore

-- a jump by this many matches in the direction of the last search; none where no search has begun
abbrev pub next_match : SearchMode → ℕ → InputEvent
next_match Forward jump = asks.MoveToNextMatch jump
next_match Reverse jump = asks.MoveToPrevMatch jump
next_match Unknown jump = asks.Ignore

-- a jump by this many matches against the direction of the last search; none where no search has begun
abbrev pub previous_match : SearchMode → ℕ → InputEvent
previous_match Forward jump = asks.MoveToPrevMatch jump
previous_match Reverse jump = asks.MoveToNextMatch jump
previous_match Unknown jump = asks.Ignore

-- a resize asks for the terminal's new size
abbrev pub new_size : Event → InputEvent
new_size (Resize cols rows) = asks.UpdateTermArea cols rows
new_size event = asks.Ignore

-- the answer of each default action
abbrev pub default_answer : DefaultAction → Event → PagerState → InputEvent
default_answer action.Quit event state = asks.Exit
default_answer action.ScrollUp event state = up_by state (steps state)
default_answer action.ScrollDown event state = down_by state (steps state)
default_answer action.ToggleFollow event state = asks.FollowOutput (not (control_of state).settings.follow)
default_answer action.ScrollLines event state = restore_or_down state
default_answer action.HalfPageUp event state = up_by state (half_page state)
default_answer action.HalfPageDown event state = down_by state (half_page state)
default_answer action.Top event state = asks.UpdateUpperMark 0
default_answer action.GoToLine event state = to_line state
default_answer action.PageUp event state = up_by state (page state)
default_answer action.PageDown event state = down_by state (page state)
default_answer action.ToggleNumbers event state = asks.UpdateLineNumber (toggled (control_of state).numbers)
default_answer action.Bottom event state = bottom
default_answer action.Help event state = asks.ShowHelp
default_answer action.SearchForward event state = asks.Search Forward
default_answer action.SearchBackward event state = asks.Search Reverse
default_answer action.NextMatch event state = next_match state.search_state.search_mode (steps state)
default_answer action.PreviousMatch event state = previous_match state.search_state.search_mode (steps state)
default_answer action.WheelUp event state = up_by state 5
default_answer action.WheelDown event state = down_by state 5
default_answer action.StartSelection event state = selection_start event
default_answer action.UpdateSelection event state = selection_update event
default_answer action.CopySelection event state = asks.CopySelection
default_answer action.ToggleWrap event state = asks.HorizontalScroll (not (control_of state).wrapping)
default_answer action.ScrollLeft event state = left_by state (steps state)
default_answer action.ScrollRight event state = right_by state (steps state)
default_answer action.Resize event state = new_size event
default_answer action.TypeDigit event state = typed_digit event
