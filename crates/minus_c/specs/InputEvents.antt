-- What an event asks for, as numbers.
use Rattle.std.specs.Prelude.{ℕ, ◌==◌, ◌&&◌, nat_lt, Bool, true, false, Option, None, Some, if◌then◌else◌}
use Rattle.std.specs.Option.{option_map}
use Rattle.minus_state.specs.declared.input.InputEvent.{InputEvent}
use Rattle.minus_state.specs.declared.input.InputEvent.TheVariants as asks
use Rattle.minus_c.specs.declared.input_events.AskedNumbers.{AskedNumbers}
use Rattle.minus_c.specs.Keys.{is_character}
use Rattle.minus_c.specs.EnumNumbers.{line_numbers_of, search_mode_of, number_of_numbers, number_of_mode}

-- the flag that a number stands for: 0 for false and 1 for true
abbrev pub flag_of : ℕ → Option Bool
flag_of n = if n == 0 then Some false else if n == 1 then Some true else None

-- the number of a flag: 0 for false and 1 for true
abbrev pub number_of_flag : Bool → ℕ
number_of_flag false = 0
number_of_flag true = 1

-- both are columns and rows of 16 bits
abbrev pub is_place : ℕ → ℕ → Bool
is_place x y = nat_lt x 65536 && nat_lt y 65536

-- what begins or drags a selection, by its kind, 6 or 7, and a place of 16 bits for column and row
abbrev pub selecting : ℕ → ℕ → ℕ → Option InputEvent
selecting kind x y =
    if is_place x y
    then (if kind == 6 then Some (asks.StartSelection x y) else if kind == 7 then Some (asks.UpdateSelection x y)
    else None)
    else None

-- the character that is typed to the prefix
abbrev pub typed : ℕ → Option InputEvent
typed code = if is_character code then Some (asks.Number code) else None

-- what sets something by a number
abbrev pub setting : ℕ → ℕ → Option InputEvent
setting kind number =
    if kind == 4 then option_map asks.UpdateLineNumber (line_numbers_of number)
    else if kind == 5 then option_map asks.HorizontalScroll (flag_of number)
    else if kind == 10 then option_map asks.Search (search_mode_of number)
    else if kind == 15 then option_map asks.FollowOutput (flag_of number)
    else if kind == 18 then typed number
    else None

-- what each number stands for
abbrev pub asking : ℕ → ℕ → ℕ → Option InputEvent
asking kind first second =
    if kind == 0 then Some asks.Ignore else if kind == 1 then Some (asks.UpdateUpperMark first)
    else if kind == 2 then Some (asks.UpdateTermArea first second)
    else if kind == 3 then Some (asks.UpdateLeftMark first)
    else if kind == 8 then Some asks.ClearSelection else if kind == 9 then Some asks.CopySelection
    else if kind == 11 then Some asks.NextMatch else if kind == 12 then Some asks.PrevMatch
    else if kind == 13 then Some (asks.MoveToNextMatch first) else if kind == 14 then Some (asks.MoveToPrevMatch first)
    else if kind == 16 then Some asks.RestorePrompt else if kind == 17 then Some asks.ShowHelp
    else if kind == 19 then Some asks.Exit else None

-- what numbers stand for
abbrev pub input_event_of : ℕ → ℕ → ℕ → Option InputEvent
input_event_of kind first second =
    if kind == 6 then selecting kind first second else if kind == 7 then selecting kind first second
    else if kind == 4 then setting kind first else if kind == 5 then setting kind first
    else if kind == 10 then setting kind first
    else if kind == 15 then setting kind first else if kind == 18 then setting kind first
    else asking kind first second

-- the number of what an event asks for
abbrev pub kind_number : InputEvent → ℕ
kind_number asks.Ignore = 0
kind_number (asks.UpdateUpperMark row) = 1
kind_number (asks.UpdateTermArea cols rows) = 2
kind_number (asks.UpdateLeftMark column) = 3
kind_number (asks.UpdateLineNumber numbers) = 4
kind_number (asks.HorizontalScroll wrapping) = 5
kind_number (asks.StartSelection x y) = 6
kind_number (asks.UpdateSelection x y) = 7
kind_number asks.ClearSelection = 8
kind_number asks.CopySelection = 9
kind_number (asks.Search mode) = 10
kind_number asks.NextMatch = 11
kind_number asks.PrevMatch = 12
kind_number (asks.MoveToNextMatch jump) = 13
kind_number (asks.MoveToPrevMatch jump) = 14
kind_number (asks.FollowOutput follow) = 15
kind_number asks.RestorePrompt = 16
kind_number asks.ShowHelp = 17
kind_number (asks.Number character) = 18
kind_number asks.Exit = 19

-- the first number that an event says besides its kind, 0 where it says none
abbrev pub first_of : InputEvent → ℕ
first_of (asks.UpdateUpperMark row) = row
first_of (asks.UpdateTermArea cols rows) = cols
first_of (asks.UpdateLeftMark column) = column
first_of (asks.UpdateLineNumber numbers) = number_of_numbers numbers
first_of (asks.HorizontalScroll wrapping) = number_of_flag wrapping
first_of (asks.StartSelection x y) = x
first_of (asks.UpdateSelection x y) = x
first_of (asks.Search mode) = number_of_mode mode
first_of (asks.MoveToNextMatch jump) = jump
first_of (asks.MoveToPrevMatch jump) = jump
first_of (asks.FollowOutput follow) = number_of_flag follow
first_of (asks.Number character) = character
first_of other = 0

-- the second number that an event says besides its kind, 0 where it says none
abbrev pub second_of : InputEvent → ℕ
second_of (asks.UpdateTermArea cols rows) = rows
second_of (asks.StartSelection x y) = y
second_of (asks.UpdateSelection x y) = y
second_of other = 0

-- nothing is asked for
abbrev pub asked_nothing : ℕ → AskedNumbers
asked_nothing refusal = record { refusal = refusal; is_there = false; kind = 0; first = 0; second = 0 }

-- the numbers of what is asked for, if something is
abbrev pub asked_numbers : Option InputEvent → AskedNumbers
asked_numbers None = asked_nothing 0
asked_numbers (Some event) =
    record { refusal = 0; is_there = true; kind = kind_number event; first = first_of event; second = second_of event }
