-- How much of a text a program reads, and how it begins to show it.
use Rattle.std.specs.Prelude.{ℕ, ◌-◌, ◌&&◌, ◌||◌, not, Option, Some, None, Bool, if◌then◌else◌, length, nat_lt}
use Rattle.std.specs.Prelude.{slice_get}
use Rattle.minus_text.specs.declared.rows.Span.{Span}
use Rattle.minus_text.specs.LinePlaces.{row_places}
use Rattle.minus_text.specs.Document.{rows_of}
use Rattle.minus_state.specs.declared.state.PagerState.{PagerState}
use Rattle.minus_state.specs.Help.{help_open}
use Rattle.minus_state.specs.States.{control_of}
use Rattle.minus_view.specs.declared.arguments.Opening.{Opening}
use Rattle.minus_view.specs.declared.arguments.Opening.TheVariants as opening
use Rattle.minus_app.specs.declared.options.Options.{Options}
use Rattle.minus_app.specs.declared.view.goals.Goal.{Goal}
use Rattle.minus_app.specs.declared.view.goals.Goal.TheVariants.{Line, End}

-- the line that is shown first, counted from 0: none where the text begins with its own first line
abbrev pub first_line : ℕ → Option Goal
first_line line = if nat_lt line 2 then None else Some (Line (line - 1))

-- what the text is read on for so that the first page begins there: its end, or a line that is not its first one
abbrev pub goal_of_opening : Opening → Option Goal
goal_of_opening opening.First = None
goal_of_opening (opening.Line line) = first_line line
goal_of_opening opening.End = Some End
goal_of_opening opening.Follows = None
goal_of_opening (opening.Finds query) = None

-- what the text is read on for at first
abbrev pub first_goal : Options → Option Goal
first_goal options = goal_of_opening options.opening

-- the bytes from the start of a row to the end of another
abbrev pub bytes_from_to : Option Span → Option Span → ℕ
bytes_from_to (Some first) (Some last) = last.end - first.start
bytes_from_to (Some first) None = 0
bytes_from_to None last = 0

-- the bytes of the displayed text from the first row of the page on
abbrev pub bytes_below : PagerState → ℕ
bytes_below state =
    let places = row_places state.screen.document in
    bytes_from_to (slice_get places state.upper_mark)
    (slice_get places (length (rows_of state.screen.document) - 1))

-- whether more of a text is wanted: not while help is open, and else where the text is followed, where
-- what it is read on for is still to come, or where fewer bytes than `most` are there from the page on
abbrev pub wants_more : PagerState → Bool → ℕ → Bool
wants_more state waits most =
    not (help_open (control_of state))
    && ((control_of state).settings.follow || waits || nat_lt (bytes_below state) most)
