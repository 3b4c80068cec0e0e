-- The press of a key, with no lock on and outside the keypad.
use Rattle.minus_term.specs.declared.event.KeyCode.{KeyCode}
use Rattle.minus_term.specs.declared.event.KeyModifiers.{KeyModifiers}
use Rattle.minus_term.specs.declared.event.KeyEvent.{KeyEvent}
use Rattle.minus_term.specs.declared.event.KeyEventKind.TheVariants.{Press}

-- the event of a press of a key with these modifiers
abbrev pub press_of : KeyCode → KeyModifiers → KeyEvent
press_of code modifiers = record { code = code; modifiers = modifiers; kind = Press; state = record { 0 = 0 } }
