-- The keys that a sequence stands for, as xterm, tmux and the Linux console send them, by what follows `ESC`.
use Rattle.std.specs.Prelude.{◌-◌, bit_and, option_and_then, ℕ, ◌+◌, ◌==◌, List, [], ◌∷◌, Option, Some, None}
use Rattle.std.specs.Prelude.{if◌then◌else◌, bytes_eq, codes, option_map}
use Rattle.std.specs.Int.{is_in_range}
use Rattle.minus_view.specs.Numbers.{number, past_number, past_semicolon}
use Rattle.minus_term.specs.declared.event.Event.{Event}
use Rattle.minus_term.specs.declared.event.Event.TheVariants.{FocusGained, FocusLost, Key}
use Rattle.minus_term.specs.declared.event.KeyCode.{KeyCode}
use Rattle.minus_term.specs.declared.event.KeyCode.TheVariants.{Left, Right, Up, Down, Home, End, PageUp, PageDown}
use Rattle.minus_term.specs.declared.event.KeyCode.TheVariants.{BackTab, Delete, Insert, F}
use Rattle.minus_term.specs.declared.event.KeyEventKind.TheVariants.{Press}

-- a press of a key; SHIFT is 1, CONTROL is 2 and ALT is 4
abbrev pub press : KeyCode → ℕ → Event
press code bits = Key (record { code = code; modifiers = record { 0 = bits }; kind = Press; state = record { 0 = 0 } })

-- what stands next to some bytes in a table
abbrev pub look_up : {C : Type 0} → List ℕ → List (List ℕ × C) → Option C
look_up bytes [] = None
look_up bytes ((known, meant) ∷ rows) = if bytes_eq bytes known then Some meant else look_up bytes rows

-- the keys that move, in both modes of a terminal
abbrev pub cursor_keys : List (List ℕ × Event)
cursor_keys =
    (codes "[A", press Up 0) ∷ (codes "[B", press Down 0) ∷ (codes "[C", press Right 0)
    ∷ (codes "[D", press Left 0) ∷ (codes "[H", press Home 0) ∷ (codes "[F", press End 0)
    ∷ (codes "OA", press Up 0) ∷ (codes "OB", press Down 0) ∷ (codes "OC", press Right 0)
    ∷ (codes "OD", press Left 0) ∷ (codes "OH", press Home 0) ∷ (codes "OF", press End 0) ∷ []

-- the block of keys above them, the tab key with Shift, and the focus
abbrev pub editing_keys : List (List ℕ × Event)
editing_keys =
    (codes "[1~", press Home 0) ∷ (codes "[2~", press Insert 0) ∷ (codes "[3~", press Delete 0)
    ∷ (codes "[4~", press End 0) ∷ (codes "[5~", press PageUp 0) ∷ (codes "[6~", press PageDown 0)
    ∷ (codes "[7~", press Home 0) ∷ (codes "[8~", press End 0) ∷ (codes "[Z", press BackTab 1)
    ∷ (codes "[I", FocusGained) ∷ (codes "[O", FocusLost) ∷ []

-- the function keys F1 to F5 of xterm and tmux, then those of the Linux console
abbrev pub first_functions : List (List ℕ × Event)
first_functions =
    (codes "OP", press (F 1) 0) ∷ (codes "OQ", press (F 2) 0) ∷ (codes "OR", press (F 3) 0)
    ∷ (codes "OS", press (F 4) 0) ∷ (codes "[15~", press (F 5) 0) ∷ (codes "[[A", press (F 1) 0)
    ∷ (codes "[[B", press (F 2) 0) ∷ (codes "[[C", press (F 3) 0) ∷ (codes "[[D", press (F 4) 0)
    ∷ (codes "[[E", press (F 5) 0) ∷ []

-- the function keys of all of them, and F1 to F4 of older terminals
abbrev pub more_functions : List (List ℕ × Event)
more_functions =
    (codes "[17~", press (F 6) 0) ∷ (codes "[18~", press (F 7) 0) ∷ (codes "[19~", press (F 8) 0)
    ∷ (codes "[20~", press (F 9) 0) ∷ (codes "[21~", press (F 10) 0) ∷ (codes "[23~", press (F 11) 0)
    ∷ (codes "[24~", press (F 12) 0) ∷ (codes "[11~", press (F 1) 0) ∷ (codes "[12~", press (F 2) 0)
    ∷ (codes "[13~", press (F 3) 0) ∷ (codes "[14~", press (F 4) 0) ∷ []

-- the first answer of two
abbrev pub or_else : {C : Type 0} → Option C → Option C → Option C
or_else (Some meant) other = Some meant
or_else None other = other

-- all of these
abbrev pub table_key : List ℕ → Option Event
table_key bytes =
    or_else (or_else (look_up bytes cursor_keys) (look_up bytes editing_keys))
    (or_else (look_up bytes first_functions) (look_up bytes more_functions))

-- the key of a letter in `ESC[1;mX`, where m says the modifiers
abbrev pub letter_key : ℕ → Option KeyCode
letter_key c =
    if c == 65 then Some Up else (if c == 66 then Some Down else (if c == 67 then Some Right
    else (if c == 68 then Some Left else (if c == 70 then Some End else (if c == 72 then Some Home
    else (if is_in_range 80 83 c then Some (F (c - 79)) else None))))))

-- the key of a number in `ESC[n;m~`
abbrev pub number_key : ℕ → Option KeyCode
number_key n =
    if n == 1 then Some Home else (if n == 2 then Some Insert else (if n == 3 then Some Delete
    else (if n == 4 then Some End else (if n == 5 then Some PageUp else (if n == 6 then Some PageDown
    else (if is_in_range 11 15 n then Some (F (n - 10)) else (if is_in_range 17 21 n then Some (F (n - 11))
    else (if is_in_range 23 24 n then Some (F (n - 12)) else None))))))))

-- the key that the number n and the last byte of a sequence mean: `~` ends a key of a number,
-- and a letter ends its key only where n is 1
abbrev pub ended_key : ℕ → List ℕ → Option KeyCode
ended_key n (c ∷ []) = if c == 126 then number_key n else (if n == 1 then letter_key c else None)
ended_key n other = None

-- the modifiers of a number of xterm's: one more than its bits, of which 1, 2 and 4 are SHIFT, ALT and CONTROL
abbrev pub xterm_bits : ℕ → ℕ
xterm_bits m =
    (if bit_and (m - 1) 1 == 0 then 0 else 1) + (if bit_and (m - 1) 2 == 0 then 0 else 4)
    + (if bit_and (m - 1) 4 == 0 then 0 else 2)

-- what follows `ESC[` in a key with modifiers
abbrev pub modified : List ℕ → Option Event
modified bytes =
    option_and_then (λ rest. option_map (λ code. press code (xterm_bits (number 0 rest)))
    (ended_key (number 0 bytes) (past_number rest))) (past_semicolon (past_number bytes))
