-- What the classifier answers that goes by exact codes and modifiers.
use Rattle.std.specs.Prelude.{ℕ, ◌-◌, ◌==◌, not, Option, None, Some, unwrap_or, if◌then◌else◌}
use Rattle.std.specs.Char.{is_ascii_digit}
use Rattle.minus_term.specs.declared.event.Event.{Event}
use Rattle.minus_term.specs.declared.event.Event.TheVariants.{Key, Mouse, Resize}
use Rattle.minus_term.specs.declared.event.KeyCode.{KeyCode}
use Rattle.minus_term.specs.declared.event.KeyCode.TheVariants.{Char, Up, Down, Enter, PageUp, PageDown, Left, Right}
use Rattle.minus_term.specs.declared.event.MouseEventKind.{MouseEventKind}
use Rattle.minus_term.specs.declared.event.MouseEventKind.TheVariants.{ScrollUp, ScrollDown}
use Rattle.minus_text.specs.NumberPrefix.{toggled}
use Rattle.minus_state.specs.declared.input.InputEvent.{InputEvent}
use Rattle.minus_state.specs.declared.input.InputEvent.TheVariants as asks
use Rattle.minus_state.specs.declared.search.SearchMode.{SearchMode}
use Rattle.minus_state.specs.declared.search.SearchMode.TheVariants.{Forward, Reverse}
use Rattle.minus_state.specs.declared.state.PagerState.{PagerState}
use Rattle.minus_state.specs.States.{control_of}
use Rattle.minus_input.specs.DefaultAnswers.{max, typed, steps, up_by, down_by, left_by, right_by, half_page, page}
use Rattle.minus_input.specs.DefaultAnswers.{restore_or_down}
use Rattle.minus_input.specs.Names.{shift, control}

-- the number before this one, counted from 1; the greatest number before 0 and 1
abbrev pub row_before : ℕ → ℕ
row_before number = if number - 1 == 0 then max else number - 1

-- the mark moves to the row that the typed prefix names, counted from 1; to the greatest number where the prefix writes
-- 0 or 1, and to that number less one where it writes none
abbrev pub to_row : PagerState → InputEvent
to_row state = asks.UpdateUpperMark (row_before (unwrap_or (typed state) max))

-- a jump on by this many matches; after a search back the jump goes back
abbrev pub match_on : SearchMode → ℕ → InputEvent
match_on Reverse jump = asks.MoveToPrevMatch jump
match_on mode jump = asks.MoveToNextMatch jump

-- a jump back by this many matches; after a search back the jump goes on
abbrev pub match_back : SearchMode → ℕ → InputEvent
match_back Reverse jump = asks.MoveToNextMatch jump
match_back mode jump = asks.MoveToPrevMatch jump

-- a character without modifiers that is no digit: `k`, `j`, `u`, `d`, `g`, `G`, the
-- space, `q`, `h`, `l`, `/`, `?`, `n` and `p`
abbrev pub plain_letter : ℕ → PagerState → Option InputEvent
plain_letter c state =
    if c == 107 then Some (up_by state (steps state))
    else if c == 106 then Some (down_by state (steps state))
    else if c == 117 then Some (up_by state (half_page state))
    else if c == 100 then Some (down_by state (half_page state))
    else if c == 103 then Some (asks.UpdateUpperMark 0)
    else if c == 71 then Some (to_row state)
    else if c == 32 then Some (down_by state (page state))
    else if c == 113 then Some asks.Exit
    else if c == 104 then Some (asks.HorizontalScroll (not (control_of state).wrapping))
    else if c == 108 then Some (right_by state 1)
    else if c == 47 then Some (asks.Search Forward)
    else if c == 63 then Some (asks.Search Reverse)
    else if c == 110 then Some (match_on state.search_state.search_mode (steps state))
    else if c == 112 then Some (match_back state.search_state.search_mode (steps state))
    else None

-- a character with CONTROL: `f`, `u`, `d`, `l` and `c`
abbrev pub control_letter : ℕ → PagerState → Option InputEvent
control_letter c state =
    if c == 102 then Some (asks.FollowOutput (not (control_of state).settings.follow))
    else if c == 117 then Some (up_by state (half_page state))
    else if c == 100 then Some (down_by state (half_page state))
    else if c == 108 then Some (asks.UpdateLineNumber (toggled (control_of state).numbers))
    else if c == 99 then Some asks.Exit
    else None

-- a character with SHIFT: `g` and `G`
abbrev pub shift_letter : ℕ → PagerState → Option InputEvent
shift_letter c state = if c == 103 then Some (to_row state) else if c == 71 then Some (to_row state) else None

-- a character with modifiers: an ASCII digit without any is typed to the prefix
abbrev pub letter : ℕ → ℕ → PagerState → Option InputEvent
letter c modifiers state =
    if modifiers == 0 then (if is_ascii_digit c then Some (asks.Number c) else plain_letter c state)
    else if modifiers == control then control_letter c state
    else if modifiers == shift then shift_letter c state
    else None

-- a key that is no character's, without modifiers
abbrev pub named_key : KeyCode → PagerState → Option InputEvent
named_key Up state = Some (up_by state (steps state))
named_key Down state = Some (down_by state (steps state))
named_key Enter state = Some (restore_or_down state)
named_key PageUp state = Some (up_by state (page state))
named_key PageDown state = Some (down_by state (page state))
named_key Left state = Some (left_by state 1)
named_key Right state = Some (right_by state 1)
named_key other state = None

-- a key with modifiers; its kind and state are not looked at
abbrev pub exact_key : KeyCode → ℕ → PagerState → Option InputEvent
exact_key (Char c) modifiers state = letter c modifiers state
exact_key other modifiers state = if modifiers == 0 then named_key other state else None

-- the wheel, with any modifiers; the mouse asks for nothing more
abbrev pub wheel : MouseEventKind → PagerState → Option InputEvent
wheel ScrollUp state = Some (up_by state 5)
wheel ScrollDown state = Some (down_by state 5)
wheel other state = None

-- what each event asks for in a state
abbrev pub exact_answer : Event → PagerState → Option InputEvent
exact_answer (Key key) state = exact_key key.code key.modifiers.0 state
exact_answer (Mouse mouse) state = wheel mouse.kind state
exact_answer (Resize cols rows) state = Some (asks.UpdateTermArea cols rows)
exact_answer other state = None
