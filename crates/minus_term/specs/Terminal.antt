-- The bytes that begin and end a session on a terminal, and how far they went where the sink refused.
use Rattle.std.specs.Prelude.{ℕ, List, [], ◌∷◌, ◌++◌, flat_map, codes, Option}
use Rattle.minus_term.specs.declared.error.SetupError.{SetupError}
use Rattle.minus_term.specs.declared.error.SetupError.TheVariants.{InvalidTerminal, AlternateScreen, RawMode}
use Rattle.minus_term.specs.declared.error.SetupError.TheVariants.{HideCursor, EnableMouseCapture, TerminalSize}
use Rattle.minus_term.specs.declared.error.CleanupError.{CleanupError}
use Rattle.minus_term.specs.declared.error.CleanupError.TheVariants.{DisableMouseCapture, ShowCursor, DisableRawMode}
use Rattle.minus_term.specs.declared.error.CleanupError.TheVariants.{LeaveAlternateScreen}
use Rattle.minus_term.specs.Counts.{AppendsPart}
use Rattle.minus_term.specs.Operations as op
use Rattle.minus_term.specs.Written.{escape, written}

-- the sequence that turns a mode of a terminal on; the mode's number is given by its digits
abbrev pub mode_on : List ℕ → List ℕ
mode_on number = escape ++ codes "?" ++ number ++ codes "h"

-- the sequence that turns a mode of a terminal off; the mode's number is given by its digits
abbrev pub mode_off : List ℕ → List ℕ
mode_off number = escape ++ codes "?" ++ number ++ codes "l"

-- the sequence that leads to the alternate screen
unfoldable pub alternate_screen : List ℕ
alternate_screen = mode_on (codes "1049")

-- the sequence that leads from the alternate screen back to the main one
unfoldable pub main_screen : List ℕ
main_screen = mode_off (codes "1049")

-- the sequences that turn on the modes in which a terminal reports the mouse's events
unfoldable pub mouse_on : List ℕ
mouse_on = flat_map mode_on (codes "1000" ∷ codes "1002" ∷ codes "1003" ∷ codes "1015" ∷ codes "1006" ∷ [])

-- the sequences that turn off the modes in which a terminal reports the mouse's events, in the other order
unfoldable pub mouse_off : List ℕ
mouse_off = flat_map mode_off (codes "1006" ∷ codes "1015" ∷ codes "1003" ∷ codes "1002" ∷ codes "1000" ∷ [])

-- what begins a session: the alternate screen, the mouse's events, and the cursor hidden
abbrev pub setup_bytes : List ℕ
setup_bytes = alternate_screen ++ mouse_on ++ written op.HideCursor

-- what ends it: the cursor shown, no more events of the mouse, and the main screen
abbrev pub cleanup_bytes : List ℕ
cleanup_bytes = written op.ShowCursor ++ mouse_off ++ main_screen

-- what a setup that was refused wrote: all before the part that the error names, and a beginning of that part
abbrev pub SetupBreaksOff : SetupError → Option (List ℕ) → Option (List ℕ) → Type 0
SetupBreaksOff InvalidTerminal old new = AppendsPart old new [] []
SetupBreaksOff (AlternateScreen cause) old new = AppendsPart old new [] alternate_screen
SetupBreaksOff (EnableMouseCapture cause) old new = AppendsPart old new alternate_screen mouse_on
SetupBreaksOff (HideCursor cause) old new = AppendsPart old new (alternate_screen ++ mouse_on) (written op.HideCursor)
SetupBreaksOff (RawMode cause) old new = ⊥
SetupBreaksOff (TerminalSize cause) old new = ⊥

-- what a cleanup that is cut short has written
abbrev pub CleanupBreaksOff : CleanupError → Option (List ℕ) → Option (List ℕ) → Type 0
CleanupBreaksOff (ShowCursor cause) old new = AppendsPart old new [] (written op.ShowCursor)
CleanupBreaksOff (DisableMouseCapture cause) old new = AppendsPart old new (written op.ShowCursor) mouse_off
CleanupBreaksOff (LeaveAlternateScreen cause) old new =
    AppendsPart old new (written op.ShowCursor ++ mouse_off) main_screen
CleanupBreaksOff (DisableRawMode cause) old new = ⊥
