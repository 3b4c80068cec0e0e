-- What events do to a query: the keys of a search prompt.
use Rattle.std.specs.Prelude.{◌==◌, if◌then◌else◌}
use Rattle.minus_term.specs.declared.event.Event.{Event}
use Rattle.minus_term.specs.declared.event.Event.TheVariants as events
use Rattle.minus_term.specs.declared.event.KeyEvent.{KeyEvent}
use Rattle.minus_term.specs.declared.event.KeyEventKind.{KeyEventKind}
use Rattle.minus_term.specs.declared.event.KeyEventKind.TheVariants.{Press}
use Rattle.minus_term.specs.declared.event.KeyCode.{KeyCode}
use Rattle.minus_term.specs.declared.event.KeyCode.TheVariants as keys
use Rattle.minus_state.specs.declared.search.keys.QueryEdit.{QueryEdit}
use Rattle.minus_state.specs.declared.search.keys.QueryEdit.TheVariants as edits

-- what a key does without a modifier
abbrev pub plain_edit : KeyCode → QueryEdit
plain_edit keys.Esc = edits.Cancels
plain_edit keys.Enter = edits.Confirms
plain_edit keys.Backspace = edits.RemovesBefore
plain_edit keys.Delete = edits.RemovesUnder
plain_edit keys.Left = edits.Left
plain_edit keys.Right = edits.Right
plain_edit keys.Home = edits.Start
plain_edit keys.End = edits.End
plain_edit (keys.Char character) = edits.Inserts character
plain_edit code = edits.Nothing

-- with shift alone
abbrev pub shifted_edit : KeyCode → QueryEdit
shifted_edit (keys.Char character) = edits.Inserts character
shifted_edit code = edits.Nothing

-- with control alone
abbrev pub controlled_edit : KeyCode → QueryEdit
controlled_edit keys.Left = edits.WordLeft
controlled_edit keys.Right = edits.WordRight
controlled_edit code = edits.Nothing

-- by the bits of its modifiers: none, shift (1) or control (2)
abbrev pub key_edit : KeyEvent → QueryEdit
key_edit key =
    if key.modifiers.0 == 0 then plain_edit key.code
    else if key.modifiers.0 == 1 then shifted_edit key.code
    else if key.modifiers.0 == 2 then controlled_edit key.code
    else edits.Nothing

-- a key that is not pressed does nothing
abbrev pub pressed_edit : KeyEventKind → KeyEvent → QueryEdit
pressed_edit Press key = key_edit key
pressed_edit kind key = edits.Nothing

-- what an event does: one that is of no key does nothing
abbrev pub edit_of : Event → QueryEdit
edit_of (events.Key key) = pressed_edit key.kind key
edit_of event = edits.Nothing
