-- The names that a description is made of.
use Rattle.std.specs.Prelude.{ℕ, List, [], ◌∷◌, map, ◌==◌, Option, Some, None, bytes_eq, codes, if◌then◌else◌}
use Rattle.std.specs.Char.{to_ascii_lowercase}
use Rattle.minus_term.specs.declared.event.KeyCode.{KeyCode}
use Rattle.minus_term.specs.declared.event.KeyCode.TheVariants.{Backspace, Enter, Left, Right, Up, Down, Home, End}
use Rattle.minus_term.specs.declared.event.KeyCode.TheVariants.{PageUp, PageDown, Tab, BackTab, Delete, Insert, F, Char}
use Rattle.minus_term.specs.declared.event.KeyCode.TheVariants.{Esc}
use Rattle.minus_term.specs.declared.event.MouseButton.TheVariants.{Left as LeftButton, Right as RightButton}
use Rattle.minus_term.specs.declared.event.MouseButton.TheVariants.{Middle as MiddleButton}
use Rattle.minus_term.specs.declared.event.MouseEventKind.{MouseEventKind}
use Rattle.minus_term.specs.declared.event.MouseEventKind.TheVariants.{Down as ButtonDown, Up as ButtonUp, Drag, Moved}
use Rattle.minus_term.specs.declared.event.MouseEventKind.TheVariants.{ScrollDown, ScrollUp}

-- the bit of SHIFT in a key's modifiers
abbrev pub shift : ℕ
shift = 1

-- the bit of CONTROL in a key's modifiers
abbrev pub control : ℕ
control = 2

-- the bit of ALT in a key's modifiers
abbrev pub alt : ℕ
alt = 4

-- the bit of the modifier with a letter: m is ALT, c is CONTROL and s is SHIFT
abbrev pub modifier_bit : ℕ → Option ℕ
modifier_bit letter =
    if letter == 109 then Some alt
    else if letter == 99 then Some control
    else if letter == 115 then Some shift
    else None

-- the bit of the modifier that a segment is the letter of
abbrev pub modifier_letter : List ℕ → Option ℕ
modifier_letter (letter ∷ []) = modifier_bit letter
modifier_letter other = None

-- a name in small letters, where its letters are ASCII
abbrev pub lowered : List ℕ → List ℕ
lowered name = map to_ascii_lowercase name

-- what stands beside a name in a table
abbrev pub look_up : {C : Type 0} → List ℕ → List (List ℕ × C) → Option C
look_up name [] = None
look_up name ((known, meant) ∷ rows) = if bytes_eq name known then Some meant else look_up name rows

-- the keys that edit, and the dash and the space, by their names in small letters
abbrev pub editing_keys : List (List ℕ × KeyCode)
editing_keys =
    (codes "enter", Enter) ∷ (codes "tab", Tab) ∷ (codes "backtab", BackTab) ∷ (codes "backspace", Backspace)
    ∷ (codes "insert", Insert) ∷ (codes "delete", Delete) ∷ (codes "esc", Esc) ∷ (codes "dash", Char 45)
    ∷ (codes "space", Char 32) ∷ []

-- the keys that move, by their names in small letters
abbrev pub moving_keys : List (List ℕ × KeyCode)
moving_keys =
    (codes "up", Up) ∷ (codes "down", Down) ∷ (codes "left", Left) ∷ (codes "right", Right)
    ∷ (codes "pageup", PageUp) ∷ (codes "pagedown", PageDown) ∷ (codes "home", Home) ∷ (codes "end", End) ∷ []

-- the function keys F1 to F12, by their names in small letters
abbrev pub function_keys : List (List ℕ × KeyCode)
function_keys =
    (codes "f1", F 1) ∷ (codes "f2", F 2) ∷ (codes "f3", F 3) ∷ (codes "f4", F 4) ∷ (codes "f5", F 5)
    ∷ (codes "f6", F 6) ∷ (codes "f7", F 7) ∷ (codes "f8", F 8) ∷ (codes "f9", F 9) ∷ (codes "f10", F 10)
    ∷ (codes "f11", F 11) ∷ (codes "f12", F 12) ∷ []

-- the first answer of two
abbrev pub or_else : {C : Type 0} → Option C → Option C → Option C
or_else (Some meant) other = Some meant
or_else None other = other

-- the key that a segment names: one character means itself, and a longer name counts in any ASCII case
abbrev pub key_named : List ℕ → Option KeyCode
key_named (character ∷ []) = Some (Char character)
key_named name =
    or_else (look_up (lowered name) editing_keys)
    (or_else (look_up (lowered name) moving_keys) (look_up (lowered name) function_keys))

-- what is done with a button of the mouse, by its name in small letters
abbrev pub button_actions : List (List ℕ × MouseEventKind)
button_actions =
    (codes "left:down", ButtonDown LeftButton) ∷ (codes "left:up", ButtonUp LeftButton)
    ∷ (codes "left:drag", Drag LeftButton)
    ∷ (codes "right:down", ButtonDown RightButton) ∷ (codes "right:up", ButtonUp RightButton)
    ∷ (codes "right:drag", Drag RightButton)
    ∷ (codes "mid:down", ButtonDown MiddleButton) ∷ (codes "mid:up", ButtonUp MiddleButton)
    ∷ (codes "mid:drag", Drag MiddleButton) ∷ []

-- the move and the wheel of the mouse, by their names in small letters
abbrev pub other_actions : List (List ℕ × MouseEventKind)
other_actions = (codes "move", Moved) ∷ (codes "scroll:up", ScrollUp) ∷ (codes "scroll:down", ScrollDown) ∷ []

-- the action of the mouse that a segment names, in any ASCII case
abbrev pub action_named : List ℕ → Option MouseEventKind
action_named name = or_else (look_up (lowered name) button_actions) (look_up (lowered name) other_actions)
