-- What the bytes of a sink say of the page.
use Rattle.std.specs.Prelude.{◌≡◌, ℕ, ◌+◌, ◌-◌, ◌≤◌, min, List, [], ◌∷◌, ◌++◌, length, map, false, Option, None, Some}
use Rattle.std.specs.Prelude.{if◌then◌else◌, Bool, true}
use Rattle.std.specs.List.{Contains, list_any}
use Rattle.std.specs.Io.KnownBytes.{Appends}
use Rattle.minus_term.specs.PageRows.{page_len}
use Rattle.minus_term.specs.Operations.{Op}
use Rattle.minus_term.specs.Counts.{AppendsFront}
use Rattle.minus_term.specs.CursorShown.{cursor_shown, has_cursor}
use Rattle.minus_term.specs.PlayedScreen.{PlayedScreen, Shows, play_all, screen_of, unknown_screen}
use Rattle.minus_term.specs.Written.{written_all, IsClean}
use Rattle.minus_term.specs.Puts.{puts}
use Rattle.minus_term.specs.Scroll.{distance}
use Rattle.minus_term.specs.Terminal.{setup_bytes}
use Rattle.minus_state.specs.Control.{Control, text_rows}
use Rattle.minus_state.specs.Page.{page}
use Rattle.minus_draw.specs.Drawings.{drawing_by}
use Rattle.minus_draw.specs.PromptRowDrawing.{whole_prompt}
use Rattle.minus_draw.specs.declared.drawings.Drawing.{Drawing}
use Rattle.minus_draw.specs.declared.drawings.Drawing.TheVariants.{Nothing, Page, Scroll, Append, LastRow}
use Rattle.minus_draw.specs.declared.drawings.LastRow.TheVariants.{Prompt}
use Rattle.minus_state.specs.ShownPrompt.{prompt_row}
use Rattle.minus_term.specs.declared.hooks.Hook.{Hook}
use Rattle.regex.specs.Patterns.{Re}
use Rattle.minus_state.specs.declared.search.keys.QueryEdit.{QueryEdit}
use Rattle.minus_state.specs.PromptKeys.{keyed, keyed_redraw}
use Rattle.minus_state.specs.OpenSearches.{OpenSearch}

-- a work: how its result is drawn, the control that it leaves, and the hook whose
-- callbacks are called after that, if one is
pub record Work : Type 0 where
  pub drawing : Drawing
  pub left : Control
  pub hook : Option Hook

-- the controls that works pass
abbrev pub passed_in : List Work → List Control
passed_in works = map (λ (w : Work). w.left) works

-- the control that works reach
abbrev pub reached : Control → List Work → Control
reached c [] = c
reached c (w ∷ works) = reached w.left works

-- what is left undrawn, and as it was
abbrev pub undrawn : Control → Work
undrawn c = record { drawing = Nothing; left = c; hook = None }

-- what an edit of the query comes to, with what was found for it: no hook is called, also
-- where it closes the prompt and moves the mark
abbrev pub key_work : Control → OpenSearch → QueryEdit → Option Re → Work
key_work c o edit found = record {
  drawing = drawing_by (keyed_redraw o edit) c (keyed c o edit found).mark;
  left = keyed c o edit found;
  hook = None;
}

-- whether a drawing shows its page whatever the screen showed before
abbrev pub is_full : Drawing → Bool
is_full (Page whole) = true
is_full drawing = false

-- whether one of the works is drawn in full
abbrev pub some_full : List Work → Bool
some_full works = list_any (λ (w : Work). is_full w.drawing) works

-- none of the works is drawn, and each leaves the prompt row as it was
abbrev pub IsQuiet : Control → List Work → Type 0
IsQuiet old [] = Unit {0}
IsQuiet old (w ∷ works) = (w.drawing ≡ Nothing) × (prompt_row w.left ≡ prompt_row old) × IsQuiet old works

-- what is known of the terminal's screen before works are drawn: nothing where one of them is drawn in full, as each
-- change of size is; otherwise it shows the page of the old control
abbrev pub screen_before : Control → List Work → Control → PlayedScreen
screen_before old works new = if some_full works then unknown_screen new.rows else screen_of (page old)

-- how many texts a drawing may put at most, where it leads to a control: a whole page as many as it has rows of text, a
-- move by d rows as many as d, an append as many as there are rows from the first that it may change on
abbrev pub most_of : Drawing → Control → ℕ
most_of Nothing new = 0
most_of (Page whole) new = page_len new.rows
most_of (Scroll from to) new = min (distance from to) (page_len new.rows)
most_of (Append first old_count) new = length (text_rows new) - first
most_of (LastRow row) new = 0

-- how many texts the drawings of works may put at most, one after another: the last text of each but the last, which is
-- not counted where it is the last of all, is one more
abbrev pub most_puts : List Work → ℕ
most_puts [] = 0
most_puts (w ∷ []) = most_of w.drawing w.left
most_puts (w ∷ v ∷ works) = most_of w.drawing w.left + 1 + most_puts (v ∷ works)

-- a list of operations stands in another, as one piece
abbrev pub HasPiece : List Op → List Op → Type 0
HasPiece ops piece = (front back : List Op) × (ops ≡ front ++ piece ++ back)

-- the prompt row is drawn for each work that asks for it alone, whether it is another one or not
abbrev pub DrawsPrompts : List Op → List Work → Type 0
DrawsPrompts ops [] = Unit {0}
DrawsPrompts ops (w ∷ works) = (w.drawing ≡ LastRow Prompt → HasPiece ops (whole_prompt w.left))
    × DrawsPrompts ops works

-- the operations are the drawings of works: they lead to the page of the new control, with the cursor shown where that
-- has one and hidden where it has none, put rows of the pages of the controls passed alone, as few as the works allow,
-- draw each prompt row that is asked for, and are none where none is drawn and the prompt row stays
pub record IsDrawing (ops : List Op) (old : Control) (works : List Work) (new : Control) : Type 0 where
  pub shows : Shows (play_all ops (screen_before old works new)) (page new)
  pub cursor : cursor_shown ops (has_cursor (page old)) ≡ has_cursor (page new)
  pub clean : IsClean (map page (old ∷ passed_in works)) ops
  pub few : puts ops (screen_before old works new) ≤ most_puts works
  pub asked : DrawsPrompts ops works
  pub none : IsQuiet old works → ops ≡ []

-- works of which none is drawn in full leave the terminal's rows as many as they are
abbrev pub KeepsRows : Control → List Work → Type 0
KeepsRows c works = some_full works ≡ false → c.rows ≡ (reached c works).rows

-- the drawings of some works, and after them those of others, are the drawings of them all
abbrev pub DrawingsJoin : Type 0
DrawingsJoin =
    (a b c : Control) (works more : List Work) (xs ys : List Op) → b ≡ reached a works → c ≡ reached b more
    → KeepsRows b more
    → IsDrawing xs a works b → IsDrawing ys b more c → IsDrawing (xs ++ ys) a (works ++ more) c

-- the sink grew by the written form of one such list of operations
abbrev pub Drawn : Option (List ℕ) → Option (List ℕ) → Control → List Work → Control → Type 0
Drawn old_bytes new_bytes old works new =
    (ops : List Op) × Appends old_bytes new_bytes (written_all ops) × IsDrawing ops old works new

-- the sink grew by a beginning of the written form of one such list
abbrev pub BrokenOff : Option (List ℕ) → Option (List ℕ) → Control → List Work → Control → Type 0
BrokenOff old_bytes new_bytes old works new =
    (ops : List Op) × AppendsFront old_bytes new_bytes (written_all ops) × IsDrawing ops old works new
    × (IsQuiet old works → ⊥)

-- the operations take every screen of the control's size whose cursor is hidden, as the setup leaves it, to
-- its page, with the cursor shown where that has one and hidden where it has none, and put rows of the pages
-- of the controls passed alone, of which it is one
pub record IsWholeDrawing (ops : List Op) (passed : List Control) (control : Control) : Type 0 where
  pub here : Contains passed control
  pub shows : Shows (play_all ops (unknown_screen control.rows)) (page control)
  pub cursor : cursor_shown ops false ≡ has_cursor (page control)
  pub clean : IsClean (map page passed) ops

-- such operations for one page, which put no more texts than it has rows of text
pub record IsPageDrawing (ops : List Op) (control : Control) : Type 0 where
  pub whole : IsWholeDrawing ops (control ∷ []) control
  pub few : puts ops (unknown_screen control.rows) ≤ page_len control.rows

-- the sink's bytes are known, and end with the written form of such a list
abbrev pub Leaves : Option (List ℕ) → List Control → Control → Type 0
Leaves None passed control = ⊥
Leaves (Some bytes) passed control =
    (front : List ℕ) × (ops : List Op) × (bytes ≡ front ++ written_all ops) × IsWholeDrawing ops passed control

-- the sink grew by the bytes that set a terminal up, and the written form of a list for one page
abbrev pub Begins : Option (List ℕ) → Option (List ℕ) → Control → Type 0
Begins old_bytes new_bytes control =
    (ops : List Op) × Appends old_bytes new_bytes (setup_bytes ++ written_all ops) × IsPageDrawing ops control

-- the sink grew by the written form of such a list for one page
abbrev pub Redraws : Option (List ℕ) → Option (List ℕ) → Control → Type 0
Redraws old_bytes new_bytes control =
    (ops : List Op) × Appends old_bytes new_bytes (written_all ops) × IsPageDrawing ops control

-- by a beginning of it
abbrev pub RedrawBreaksOff : Option (List ℕ) → Option (List ℕ) → Control → Type 0
RedrawBreaksOff old_bytes new_bytes control =
    (ops : List Op) × AppendsFront old_bytes new_bytes (written_all ops) × IsPageDrawing ops control

-- a sink that was put in the place of another one, and told its bytes, is left with the page
abbrev pub ExchangeLeavesItsPage : Type 0
ExchangeLeavesItsPage =
    (bytes : List ℕ) (new_bytes : Option (List ℕ)) (control : Control) → Redraws (Some bytes) new_bytes control
    → Leaves new_bytes (control ∷ []) control
