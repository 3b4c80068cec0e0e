-- What is done with the mouse, as numbers.
use Rattle.std.specs.Prelude.{ℕ, ◌==◌, Option, None, Some, if◌then◌else◌}
use Rattle.std.specs.Option.{option_map}
use Rattle.minus_term.specs.declared.event.MouseButton.TheVariants.{Left, Right, Middle}
use Rattle.minus_term.specs.declared.event.MouseEvent.{MouseEvent}
use Rattle.minus_term.specs.declared.event.MouseEventKind.{MouseEventKind}
use Rattle.minus_term.specs.declared.event.MouseEventKind.TheVariants.{Down, Up, Drag, Moved, ScrollDown, ScrollUp}
use Rattle.minus_term.specs.declared.event.MouseEventKind.TheVariants.{ScrollLeft, ScrollRight}
use Rattle.minus_c.specs.declared.mouse.MouseNumbers.{MouseNumbers}

-- what is done, of a number
abbrev pub mouse_kind_of : ℕ → Option MouseEventKind
mouse_kind_of n =
    if n == 0 then Some (Down Left) else if n == 1 then Some (Down Right) else if n == 2 then Some (Down Middle)
    else if n == 3 then Some (Up Left) else if n == 4 then Some (Up Right) else if n == 5 then Some (Up Middle)
    else if n == 6 then Some (Drag Left) else if n == 7 then Some (Drag Right) else if n == 8 then Some (Drag Middle)
    else if n == 9 then Some Moved else if n == 10 then Some ScrollDown else if n == 11 then Some ScrollUp
    else if n == 12 then Some ScrollLeft else if n == 13 then Some ScrollRight else None

-- with the place and the modifiers
abbrev pub mouse_of : MouseNumbers → Option MouseEvent
mouse_of n = option_map
    (λ kind. record { kind = kind; column = n.column; row = n.row; modifiers = record { 0 = n.modifiers } })
    (mouse_kind_of n.kind)

-- the number of what is done with the mouse
abbrev pub mouse_kind_number : MouseEventKind → ℕ
mouse_kind_number (Down Left) = 0
mouse_kind_number (Down Right) = 1
mouse_kind_number (Down Middle) = 2
mouse_kind_number (Up Left) = 3
mouse_kind_number (Up Right) = 4
mouse_kind_number (Up Middle) = 5
mouse_kind_number (Drag Left) = 6
mouse_kind_number (Drag Right) = 7
mouse_kind_number (Drag Middle) = 8
mouse_kind_number Moved = 9
mouse_kind_number ScrollDown = 10
mouse_kind_number ScrollUp = 11
mouse_kind_number ScrollLeft = 12
mouse_kind_number ScrollRight = 13

-- the numbers of an event of the mouse; the column and the row are counted from 0
abbrev pub numbers_of_mouse : MouseEvent → MouseNumbers
numbers_of_mouse m =
    record { kind = mouse_kind_number m.kind; modifiers = m.modifiers.0; column = m.column; row = m.row }
