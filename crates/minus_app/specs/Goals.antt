-- Where what the text is read on for leads.
use Rattle.std.specs.Prelude.{ℕ, ◌-◌, ◌^◌, Bool, Option, None, Some, length, slice_get, if◌then◌else◌}
use Rattle.minus_text.specs.Document.{line_map}
use Rattle.minus_state.specs.declared.state.PagerState.{PagerState}
use Rattle.minus_app.specs.Lines.{row_of_line}
use Rattle.minus_app.specs.Moves.{line_at}
use Rattle.minus_app.specs.declared.view.goals.Goal.{Goal}
use Rattle.minus_app.specs.declared.view.goals.Goal.TheVariants.{Line, End, Percent, Match}

-- the first row of a line that was read, and else a row behind all, once the text is whole
abbrev pub row_if_read : Option ℕ → Bool → Option ℕ
row_if_read (Some row) whole = Some row
row_if_read None whole = if whole then Some (2 ^ 64 - 1) else None

-- the row that a page is to begin with for a goal, before it is clamped to the last page; none where the text is to be
-- read on for that, or the goal is a match
abbrev pub row_of_goal : PagerState → Goal → Bool → Option ℕ
row_of_goal state (Line line) whole = row_if_read (slice_get (line_map state.screen.document) line) whole
row_of_goal state End whole = if whole then Some (2 ^ 64 - 1) else None
row_of_goal state (Percent part) whole =
    if whole then Some (row_of_line state (line_at (length (line_map state.screen.document)) part)) else None
row_of_goal state (Match place) whole = None
