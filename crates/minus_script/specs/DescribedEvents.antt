-- The events that texts describe.
use Rattle.std.specs.Prelude.{ℕ, ◌^◌, nat_lt, ◌==◌, ◌⊎◌, List, [], ◌∷◌, Option, Some, None, if◌then◌else◌}
use Rattle.std.proofs.Common.{inl, inr}
use Rattle.std.specs.Option.{option_and_then}
use Rattle.minus_term.specs.declared.error.DescriptionError.{DescriptionError}
use Rattle.minus_term.specs.declared.event.KeyEvent.{KeyEvent}
use Rattle.minus_term.specs.declared.event.MouseEvent.{MouseEvent}
use Rattle.minus_input.specs.Description.{DescribesKey, DescribesMouse, KeyFault, MouseFault}
use Rattle.minus_input.specs.Number.{usize_of}
use Rattle.minus_input.proofs.DescriptionLaws.{each_text}

-- the one of two that holds, if it is the first: what a text describes, where nothing
-- else says why it describes nothing
abbrev pub what_holds :
    {D : Type 0} {Describes : D → Type 0} {Fault : DescriptionError → Type 0}
    → ((d : D) × Describes d) ⊎ ((e : DescriptionError) × Fault e) → Option D
what_holds (inl described) = Some described.0
what_holds (inr fault) = None

-- the key that a text describes, if it describes one: each text has one meaning
unfoldable pub key_described : List ℕ → Option KeyEvent
key_described text = what_holds {Describes = DescribesKey text} {Fault = KeyFault text} (each_text text).0.one_of_both

-- the action of the mouse that a text describes, at column 0 and row 0, if it describes one: each text has one meaning
unfoldable pub mouse_described : List ℕ → Option MouseEvent
mouse_described text =
    what_holds {Describes = DescribesMouse text} {Fault = MouseFault text} (each_text text).1.one_of_both

-- a number of a column or a row: one that fits a `u16`
abbrev pub u16_of : List ℕ → Option ℕ
u16_of text = option_and_then (λ n. if nat_lt n (2 ^ 16) then Some n else None) (usize_of text)

-- an action of the mouse at a column and a row
abbrev pub placed : Option MouseEvent → Option ℕ → Option ℕ → Option MouseEvent
placed (Some mouse) (Some column) (Some row) =
    Some (record { kind = mouse.kind; column = column; row = row; modifiers = mouse.modifiers })
placed (Some mouse) (Some column) None = None
placed (Some mouse) None row = None
placed None column row = None

-- one byte before a text that is split at its last space; where that has none, the byte itself may be the space
abbrev pub with_front : ℕ → List ℕ → Option (List ℕ × List ℕ) → Option (List ℕ × List ℕ)
with_front b bytes (Some fields) = Some (b ∷ fields.0, fields.1)
with_front b bytes None = if b == 32 then Some ([], bytes) else None

-- what stands before the last space of a text, and what stands after it; nothing where the text has no space
abbrev pub split_last : List ℕ → Option (List ℕ × List ℕ)
split_last [] = None
split_last (b ∷ bytes) = with_front b bytes (split_last bytes)

-- the event of the mouse that these say: the row as digits, and, split at their last
-- space, the description and the column
abbrev pub mouse_before : List ℕ → Option (List ℕ × List ℕ) → Option MouseEvent
mouse_before row None = None
mouse_before row (Some fields) = placed (mouse_described fields.0) (u16_of fields.1) (u16_of row)

-- the event of the mouse that an argument says which is split at its last space: the row stands after it
abbrev pub mouse_in : Option (List ℕ × List ℕ) → Option MouseEvent
mouse_in None = None
mouse_in (Some fields) = mouse_before fields.1 (split_last fields.0)

-- the event of the mouse that an argument says: its last two fields are the column and the row,
-- and what stands before them the description
abbrev pub mouse_said : List ℕ → Option MouseEvent
mouse_said argument = mouse_in (split_last argument)
