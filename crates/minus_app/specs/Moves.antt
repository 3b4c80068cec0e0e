-- Where a key leads that no default action of the pager has.
use Rattle.std.specs.Prelude.{ℕ, ◌+◌, ◌-◌, ◌*◌, ◌/◌, ◌^◌, Bool, true, false, Option, None, Some, List, codes, min}
use Rattle.std.specs.Prelude.{unwrap_or}
use Rattle.minus_term.specs.PageRows.{page_len}
use Rattle.minus_state.specs.declared.state.PagerState.{PagerState}
use Rattle.minus_app.specs.declared.view_action.ViewAction.{ViewAction}
use Rattle.minus_app.specs.declared.view_action.ViewAction.TheVariants.{PageDown, PageUp, HalfPageDown, HalfPageUp}
use Rattle.minus_app.specs.declared.view_action.ViewAction.TheVariants.{FirstLine, LastLine, Percent, Right, Left}
use Rattle.minus_app.specs.declared.view_action.ViewAction.TheVariants.{NextMatch, PreviousMatch, Redraw, Interrupt}
use Rattle.minus_app.specs.declared.view_action.ViewAction.TheVariants.{SetMark, GoToMark, TellPlace, SetOption}
use Rattle.minus_app.specs.declared.view_action.ViewAction.TheVariants.{Command, EndTwice, TurnMatches, PassLine}

-- whether it is done while help is open too: what moves the page of help, or draws it
abbrev pub holds_in_help : ViewAction → Bool
holds_in_help PageDown = true
holds_in_help PageUp = true
holds_in_help HalfPageDown = true
holds_in_help HalfPageUp = true
holds_in_help FirstLine = true
holds_in_help LastLine = true
holds_in_help Percent = true
holds_in_help Right = true
holds_in_help Left = true
holds_in_help Redraw = true
holds_in_help action = false

-- a row some rows below another; behind all rows there is one more place, which is as good as any
abbrev pub down : ℕ → ℕ → ℕ
down mark rows = min (2 ^ 64 - 1) (mark + rows)

-- the line at this percentage of the text, counted from 0
abbrev pub line_at : ℕ → ℕ → ℕ
line_at lines part = lines * min 100 part / 100

-- the number that holds for a key: the one that was typed before it, or else the last one before such a key
abbrev pub last_count : Option ℕ → Option ℕ → Option ℕ
last_count kept (Some n) = Some n
last_count kept None = kept

-- the row that a move by rows leads to, before it is clamped to the last page; any other action stays
abbrev pub row_of_move : PagerState → ViewAction → Option ℕ → ℕ
row_of_move state PageDown count = down state.upper_mark (unwrap_or count (page_len state.rows))
row_of_move state PageUp count = state.upper_mark - unwrap_or count (page_len state.rows)
row_of_move state HalfPageDown count = down state.upper_mark (unwrap_or count (state.rows / 2))
row_of_move state HalfPageUp count = state.upper_mark - unwrap_or count (state.rows / 2)
row_of_move state action count = state.upper_mark

-- what help says of it
abbrev pub view_description : ViewAction → List ℕ
view_description PageDown = codes "page down, or by N rows"
view_description PageUp = codes "page up, or by N rows"
view_description HalfPageDown = codes "half a page down, or N rows"
view_description HalfPageUp = codes "half a page up, or N rows"
view_description FirstLine = codes "first line, or line N"
view_description LastLine = codes "end of the text, or line N"
view_description Percent = codes "N per cent of the text"
view_description Right = codes "half a page to the right, or N columns"
view_description Left = codes "half a page to the left, or N columns"
view_description NextMatch = codes "next match in the direction of the search"
view_description PreviousMatch = codes "match against the direction of the search"
view_description Redraw = codes "draw the page again"
view_description Interrupt = codes "end following, reading on, or the program"
view_description SetMark = codes "keep this place under a letter"
view_description GoToMark = codes "go to the place of a letter, ' back"
view_description TellPlace = codes "where in the text the page is"
view_description SetOption = codes "set an option: N numbers, S cut, i I case"
view_description Command = codes "q quit, n next file, p file before"
view_description EndTwice = codes "quit, typed twice"
view_description TurnMatches = codes "show matches no more, or again"
view_description PassLine = codes "not done here, with what follows up to Enter"
