-- Which event a whole unit is; nothing where the unit is not understood.
use Rattle.std.specs.Prelude.{ℕ, ◌+◌, ◌==◌, ◌||◌, List, [], ◌∷◌, Option, Some, None, if◌then◌else◌, option_map, chars}
use Rattle.std.specs.Str.{is_utf8}
use Rattle.std.specs.Int.{is_in_range}
use Rattle.minus_view.specs.Keys.{press, or_else, table_key, modified}
use Rattle.minus_view.specs.Mouse.{mouse}
use Rattle.minus_term.specs.declared.event.Event.{Event}
use Rattle.minus_term.specs.declared.event.KeyCode.TheVariants.{Backspace, Enter, Tab, Char, Esc}

-- a report of the mouse, or a key with modifiers
abbrev pub reported : List ℕ → Option Event
reported [] = None
reported (a ∷ []) = None
reported (a ∷ b ∷ bytes) = if a == 91 then (if b == 60 then mouse bytes else modified (b ∷ bytes)) else None

-- what follows `ESC` in a named sequence
abbrev pub named : List ℕ → Option Event
named bytes = or_else (table_key bytes) (reported bytes)

-- a character's key: a capital of ASCII has SHIFT
abbrev pub character_key : ℕ → ℕ → Event
character_key c bits = if is_in_range 65 90 c then press (Char c) (bits + 1) else press (Char c) bits

-- the key of a byte below 128: a control character is its letter or sign with CONTROL, if no key has it
abbrev pub ascii_key : ℕ → ℕ → Event
ascii_key b bits =
    if b == 13 then press Enter bits else (if b == 9 then press Tab bits
    else (if (b == 8) || (b == 127) then press Backspace bits
    else (if b == 27 then press Esc bits else (if b == 0 then press (Char 32) (bits + 2)
    else (if is_in_range 1 26 b then press (Char (b + 96)) (bits + 2)
    else (if is_in_range 28 31 b then press (Char (b + 64)) (bits + 2) else character_key b bits))))))

-- the character that some bytes spell, if it is one
abbrev pub one_of : List ℕ → Option ℕ
one_of (c ∷ []) = Some c
one_of other = None

-- the one character that the bytes encode in UTF-8; nothing where they are no UTF-8, or not one character
abbrev pub character : List ℕ → Option ℕ
character bytes = if is_utf8 bytes then one_of (chars bytes) else None

-- the key that some bytes type: one byte below 128, or a character's bytes
abbrev pub typed : List ℕ → ℕ → Option Event
typed bytes bits =
    option_map (λ c. if is_in_range 0 127 c then ascii_key c bits else character_key c bits) (character bytes)

-- what follows `ESC` in a whole unit: a named sequence, or a key with ALT
abbrev pub escaped : List ℕ → Option Event
escaped [] = Some (press Esc 0)
escaped (b ∷ bytes) = if (b == 91) || (b == 79) then named (b ∷ bytes) else typed (b ∷ bytes) 4

-- what a whole unit means; nothing where it is not understood
abbrev pub meaning : List ℕ → Option Event
meaning [] = None
meaning (b ∷ bytes) = if b == 27 then escaped bytes else typed (b ∷ bytes) 0
