-- Keys as numbers.
use Rattle.std.specs.Prelude.{ℕ, ◌==◌, ◌&&◌, ◌||◌, nat_lt, Bool, Option, None, Some, if◌then◌else◌}
use Rattle.minus_term.specs.declared.event.KeyCode.{KeyCode}
use Rattle.minus_term.specs.declared.event.KeyCode.TheVariants as key
use Rattle.minus_term.specs.declared.event.KeyEvent.{KeyEvent}
use Rattle.minus_term.specs.declared.event.KeyEventKind.{KeyEventKind}
use Rattle.minus_term.specs.declared.event.KeyEventKind.TheVariants.{Press, Repeat, Release}
use Rattle.minus_c.specs.declared.keys.KeyNumbers.{KeyNumbers}

-- the keys whose number says all
abbrev pub plain_key : ℕ → Option KeyCode
plain_key n =
    if n == 1 then Some key.Enter else if n == 2 then Some key.Esc else if n == 3 then Some key.Backspace
    else if n == 4 then Some key.Up else if n == 5 then Some key.Down else if n == 6 then Some key.Left
    else if n == 7 then Some key.Right else if n == 8 then Some key.PageUp else if n == 9 then Some key.PageDown
    else if n == 10 then Some key.Home else if n == 11 then Some key.End else if n == 12 then Some key.Tab
    else if n == 13 then Some key.BackTab else if n == 14 then Some key.Delete else if n == 15 then Some key.Insert
    else if n == 17 then Some key.Null else if n == 18 then Some key.CapsLock else if n == 19 then Some key.ScrollLock
    else if n == 20 then Some key.NumLock else if n == 21 then Some key.PrintScreen else if n == 22 then Some key.Pause
    else if n == 23 then Some key.Menu else if n == 24 then Some key.KeypadBegin else None

-- a Unicode scalar value
abbrev pub is_character : ℕ → Bool
is_character n = nat_lt n 55296 || (nat_lt 57343 n && nat_lt n 1114112)

-- the key of a character, if the number is a Unicode scalar value
abbrev pub char_key : ℕ → Option KeyCode
char_key value = if is_character value then Some (key.Char value) else None

-- the function key of a number below 256
abbrev pub function_key : ℕ → Option KeyCode
function_key value = if nat_lt value 256 then Some (key.F value) else None

-- the key of a number, and of what it says more
abbrev pub code_of : ℕ → ℕ → Option KeyCode
code_of n value = if n == 0 then char_key value else if n == 16 then function_key value else plain_key n

-- what is done with a key
abbrev pub key_kind_of : ℕ → Option KeyEventKind
key_kind_of n = if n == 0 then Some Press else if n == 1 then Some Repeat else if n == 2 then Some Release else None

-- a key with what is done with it
abbrev pub key_with : Option KeyCode → Option KeyEventKind → (modifiers state : ℕ) → Option KeyEvent
key_with (Some code) (Some kind) modifiers state =
    Some (record { code = code; modifiers = record { 0 = modifiers }; kind = kind; state = record { 0 = state } })
key_with (Some code) None modifiers state = None
key_with None kind modifiers state = None

-- the key that numbers stand for
abbrev pub key_of : KeyNumbers → Option KeyEvent
key_of n = key_with (code_of n.code n.value) (key_kind_of n.kind) n.modifiers n.state

-- the number of a key's code
abbrev pub code_number : KeyCode → ℕ
code_number (key.Char c) = 0
code_number key.Enter = 1
code_number key.Esc = 2
code_number key.Backspace = 3
code_number key.Up = 4
code_number key.Down = 5
code_number key.Left = 6
code_number key.Right = 7
code_number key.PageUp = 8
code_number key.PageDown = 9
code_number key.Home = 10
code_number key.End = 11
code_number key.Tab = 12
code_number key.BackTab = 13
code_number key.Delete = 14
code_number key.Insert = 15
code_number (key.F n) = 16
code_number key.Null = 17
code_number key.CapsLock = 18
code_number key.ScrollLock = 19
code_number key.NumLock = 20
code_number key.PrintScreen = 21
code_number key.Pause = 22
code_number key.Menu = 23
code_number key.KeypadBegin = 24

-- what a key's code says besides its number: the character, or the function key's number, and 0 for any other
abbrev pub value_of : KeyCode → ℕ
value_of (key.Char c) = c
value_of (key.F n) = n
value_of other = 0

-- the number of what is done with a key: 0 for a press, 1 for a repeat and 2 for a release
abbrev pub kind_number : KeyEventKind → ℕ
kind_number Press = 0
kind_number Repeat = 1
kind_number Release = 2

-- the numbers of a key
abbrev pub numbers_of_key : KeyEvent → KeyNumbers
numbers_of_key k = record {
  code = code_number k.code;
  modifiers = k.modifiers.0;
  kind = kind_number k.kind;
  state = k.state.0;
  value = value_of k.code;
}
