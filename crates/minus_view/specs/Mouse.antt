-- A report of the mouse: behind `ESC[<` stand three numbers with `;` between them, and `M`, or `m` for a button let go.
use Rattle.std.specs.Prelude.{ℕ, ◌+◌, ◌-◌, ◌==◌, Bool, true, false, List, [], ◌∷◌, Option, Some, None, if◌then◌else◌}
use Rattle.std.specs.Prelude.{option_map, option_and_then, bit_and}
use Rattle.minus_view.specs.Numbers.{number, past_number, past_semicolon}
use Rattle.minus_term.specs.declared.event.Event.{Event}
use Rattle.minus_term.specs.declared.event.Event.TheVariants.{Mouse}
use Rattle.minus_term.specs.declared.event.MouseButton.{MouseButton}
use Rattle.minus_term.specs.declared.event.MouseButton.TheVariants.{Left, Right, Middle}
use Rattle.minus_term.specs.declared.event.MouseEventKind.{MouseEventKind}
use Rattle.minus_term.specs.declared.event.MouseEventKind.TheVariants.{Down, Up, Drag, Moved, ScrollDown, ScrollUp}
use Rattle.minus_term.specs.declared.event.MouseEventKind.TheVariants.{ScrollLeft, ScrollRight}

-- the modifiers of a report: its bits 4, 8 and 16 are SHIFT, ALT and CONTROL
abbrev pub modifier_bits : ℕ → ℕ
modifier_bits bits =
    (if bit_and bits 4 == 0 then 0 else 1) + (if bit_and bits 8 == 0 then 0 else 4)
    + (if bit_and bits 16 == 0 then 0 else 2)

-- the button that the two low bits of a report mean: left for 0, middle for 1, right for 2, and no button for 3
abbrev pub button : ℕ → Option MouseButton
button two = if two == 0 then Some Left else (if two == 1 then Some Middle else (if two == 2 then Some Right else None))

-- the direction of the wheel that the two low bits of a report mean: up for 0, down for 1, left for 2 and right for 3
abbrev pub scroll : ℕ → MouseEventKind
scroll two =
    if two == 0 then ScrollUp else (if two == 1 then ScrollDown else (if two == 2 then ScrollLeft else ScrollRight))

-- with a button or with none; bit 32 says that the mouse was moved
abbrev pub pressed : Option MouseButton → Bool → Bool → Option MouseEventKind
pressed (Some b) moved up = if moved then Some (Drag b) else (if up then Some (Up b) else Some (Down b))
pressed None moved up = if moved then Some Moved else None

-- what the mouse did by the bits of a report, and whether a button was let go: bit 64 is for the wheel, and
-- buttons beyond these (bit 128) are not understood
abbrev pub mouse_kind : ℕ → Bool → Option MouseEventKind
mouse_kind bits up =
    if bit_and bits 128 == 0 then
    (if bit_and bits 64 == 0 then pressed (button (bit_and bits 3)) (if bit_and bits 32 == 0 then false else true) up
    else Some (scroll (bit_and bits 3)))
    else None

-- the event of a report; columns and rows are counted from 1 in a report, and from 0 in an event
abbrev pub mouse_event : ℕ → ℕ → ℕ → Bool → Option Event
mouse_event bits column row up =
    option_map (λ kind. Mouse (record {
      kind = kind;
      column = column - 1;
      row = row - 1;
      modifiers = record { 0 = modifier_bits bits };
    })) (mouse_kind bits up)

-- the event of a report by its three numbers and the bytes that follow them: `M` alone,
-- or `m` alone where a button was let go
abbrev pub mouse_end : ℕ → ℕ → ℕ → List ℕ → Option Event
mouse_end bits column row (b ∷ []) =
    if b == 77 then mouse_event bits column row false
    else (if b == 109 then mouse_event bits column row true else None)
mouse_end bits column row other = None

-- the event of a report by the bytes that follow `ESC[<`; nothing where they are not understood
abbrev pub mouse : List ℕ → Option Event
mouse bytes =
    option_and_then (λ columns. option_and_then (λ rows.
    mouse_end (number 0 bytes) (number 0 columns) (number 0 rows) (past_number rows))
    (past_semicolon (past_number columns))) (past_semicolon (past_number bytes))
