-- The shapes of commands, and what each does.
use Rattle.std.specs.Prelude.{ℕ, List, Bool, true, false, not, Option, None}
use Rattle.minus_state.specs.declared.change.Redraw.{Redraw}
use Rattle.minus_state.specs.declared.change.Redraw.TheVariants.{Stays, Moved, PromptRow}
use Rattle.minus_state.specs.declared.search.SearchMode.{SearchMode}
use Rattle.minus_state.specs.Appending.{followed, with_more}
use Rattle.minus_state.specs.Control.{Control, Settings}
use Rattle.minus_state.specs.Help.{help_open, left_help, prompt_restored}
use Rattle.minus_state.specs.Prompting.{opened, opening_redraw}
use Rattle.minus_state.specs.RedrawExtent.{added_redraw, whole_where}
use Rattle.minus_commands.specs.Registration.{Handing}

-- what a command does: the control that it changes, without its move; the mark that it moves to, if it moves
-- it; what it asks to be drawn; whether of the page only the prompt row may have changed; whether it is an
-- exit; and the text that is copied, if one is
pub record Effect : Type 0 where
  pub changed : Control
  pub moves_to : Option ℕ
  pub redraw : Redraw
  pub row_only : Bool
  pub is_exit : Bool
  pub copies : Option (List ℕ)

-- a shape of commands, with all that one of them may change
pub data Shape (Q K : Type 0) : Type 0 where
  -- nothing
  stays : Shape Q K
  -- nothing of the control: something is registered
  registers : Handing Q K → Shape Q K
  -- what is set beside the text, of which only the prompt row shows anything
  sets : Settings → Shape Q K
  -- what is set beside the text, and which match is reported; the mark moves, or where it moves to none stays
  moves : (beside : Settings) (search_mark : ℕ) (to : Option ℕ) → Shape Q K
  -- the text, at its end; while help is open, the one that is saved
  appends : List ℕ → Shape Q K
  -- all but the search prompt; the page is drawn whole, or where it shows nothing of it
  -- not at all; a text is copied, or none
  shows : (new : Control) (is_drawn : Bool) (copied : Option (List ℕ)) → Shape Q K
  -- nothing: the prompt row is drawn
  draws_row : Shape Q K
  -- a search prompt opens, where the direction has one
  opens : SearchMode → Shape Q K
  -- help is left where it is open, and else the message goes
  restores : Shape Q K
  -- help is left where it is open, and else it exits
  leaves : Shape Q K

-- what only changes the control
abbrev pub changes : Control → Redraw → Effect
changes c redraw =
    record { changed = c; moves_to = None; redraw = redraw; row_only = false; is_exit = false; copies = None }

-- a text is added at the end; while help is open, to the one that is saved
abbrev pub adds_text : Control → List ℕ → Effect
adds_text c text = record (changes (with_more c text) (added_redraw c text)) { moves_to = followed c text }

-- what each shape does
abbrev pub effect : {Q K : Type 0} → Control → Shape Q K → Effect
effect c stays = changes c Stays
effect c (registers handing) = changes c Stays
effect c (sets beside) = record (changes (record c { settings = beside }) Stays) { row_only = true }
effect c (moves beside search_mark to) =
    record (changes (record c { settings = beside; search_mark = search_mark }) Moved) { moves_to = to }
effect c (appends text) = adds_text c text
effect c (shows new is_drawn copied) =
    record (changes (record new { search = c.search }) (whole_where is_drawn)) { copies = copied }
effect c draws_row = changes c PromptRow
effect c (opens mode) = changes (opened c mode) (opening_redraw mode)
effect c restores = record (changes (prompt_restored c c.help) (whole_where (help_open c))) { row_only = not (help_open c) }
effect c leaves = record (changes (left_help c c.help) (whole_where (help_open c))) { is_exit = not (help_open c) }
