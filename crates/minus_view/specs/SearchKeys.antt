-- What a pager program does with an event while its search prompt is open.
use Rattle.std.specs.Prelude.{ℕ, ◌==◌, Bool, if◌then◌else◌}
use Rattle.minus_term.specs.declared.event.Event.{Event}
use Rattle.minus_term.specs.declared.event.Event.TheVariants as events
use Rattle.minus_term.specs.declared.event.KeyEvent.{KeyEvent}
use Rattle.minus_term.specs.declared.event.KeyEventKind.{KeyEventKind}
use Rattle.minus_term.specs.declared.event.KeyEventKind.TheVariants.{Press}
use Rattle.minus_term.specs.declared.event.KeyCode.{KeyCode}
use Rattle.minus_term.specs.declared.event.KeyCode.TheVariants as keys
use Rattle.minus_view.specs.declared.search_keys.SearchKey.{SearchKey}
use Rattle.minus_view.specs.declared.search_keys.SearchKey.TheVariants.{Types, Takes, Repeats, Leaves, Suspends, Older}
use Rattle.minus_view.specs.declared.search_keys.SearchKey.TheVariants.{Newer}

-- a key without a modifier: with nothing typed there is no query to take, and no character to remove
abbrev pub plain_key : KeyCode → Bool → SearchKey
plain_key keys.Esc is_empty = Leaves
plain_key keys.Up is_empty = Older
plain_key keys.Down is_empty = Newer
plain_key keys.Enter is_empty = if is_empty then Repeats else Takes
plain_key keys.Backspace is_empty = if is_empty then Leaves else Types
plain_key code is_empty = Types

-- a key with control: `c` and `z`
abbrev pub control_letter : ℕ → SearchKey
control_letter letter = if letter == 99 then Leaves else (if letter == 122 then Suspends else Types)

-- what a key with control does: control with `c` leaves the prompt, control with `z` suspends the
-- program, and any other key is the prompt's own
abbrev pub control_key : KeyCode → SearchKey
control_key (keys.Char letter) = control_letter letter
control_key code = Types

-- by the bits of its modifiers: none, or control alone (2)
abbrev pub pressed_key : KeyEvent → Bool → SearchKey
pressed_key key is_empty =
    if key.modifiers.0 == 0 then plain_key key.code is_empty
    else (if key.modifiers.0 == 2 then control_key key.code else Types)

-- what a key event does: only a press has a meaning of its own; a repeat and a release are the prompt's own
abbrev pub key_of_kind : KeyEventKind → KeyEvent → Bool → SearchKey
key_of_kind Press key is_empty = pressed_key key is_empty
key_of_kind kind key is_empty = Types

-- all other events are the prompt's own
abbrev pub search_key : Event → Bool → SearchKey
search_key (events.Key key) is_empty = key_of_kind key.kind key is_empty
search_key event is_empty = Types
