-- The table of commands and events.
use Rattle.std.specs.Prelude.{◌≡◌, ℕ, ◌&&◌, is_some, not, List, [], length, ◌++◌, Bool, true, false, Option, None, Some}
use Rattle.std.specs.Prelude.{encode_utf8, if◌then◌else◌}
use Rattle.std.specs.Option.{unwrap_or}
use Rattle.minus_term.specs.Refusals.{Refusal, for_newline, for_size, for_hook_id, for_free_hook_id}
use Rattle.minus_text.specs.declared.line_numbers.LineNumbers.{LineNumbers}
use Rattle.minus_state.specs.Copied.{copied}
use Rattle.minus_state.specs.Selection.{ends_in_order}
use Rattle.minus_draw.specs.declared.drawings.Drawing.{Drawing}
use Rattle.minus_state.specs.declared.search.SearchMode.{SearchMode}
use Rattle.minus_term.specs.declared.hooks.Hook.{Hook}
use Rattle.minus_term.specs.declared.hooks.Hook.TheVariants.{EofReached}
use Rattle.minus_state.specs.Sizes.{IsSize}
use Rattle.minus_state.specs.LeftMark.{may_shift, left_after}
use Rattle.minus_state.specs.MatchJumps.{next_match, next_match_row, prev_match, prev_match_row}
use Rattle.minus_state.specs.ShownPrompt.{has_newline}
use Rattle.minus_state.specs.Selecting.{no_ends, has_ends, end_at, ends_begun, mark_led, ends_led, stays_led}
use Rattle.minus_state.specs.Control.{Control, document_of, text_rows, with_message, reformed, SameSize}
use Rattle.minus_state.specs.TypedPrefix.{cleared}
use Rattle.minus_state.specs.ClampedMark.{clamp, top, shows_end, IsClamped}
use Rattle.minus_state.specs.Help.{help_open, toggled_with, with_prompt, with_text}
use Rattle.minus_commands.specs.Registration.{Handing, a_callback, HasNoNext}
use Rattle.minus_commands.specs.Shapes.{Effect, Shape, effect, stays, registers, sets, moves, appends, shows, draws_row}
use Rattle.minus_commands.specs.Shapes.{opens, restores, leaves}
use Rattle.minus_draw.specs.Drawings.{drawing_by}
use Rattle.minus_draw.specs.Drawn.{Work, is_full}
use Rattle.minus_state.specs.declared.hooks.HookId.{HookId}
use Rattle.minus_state.specs.HookIds.{is_taken}

-- a request, as values alone: what is registered changes what the session keeps beside its state, and help has the text
-- that it is opened with: none where the classifier gives none, or where help is open
pub data Wanted (Q K : Type 0) : Type 0 where
  sets_data : List ℕ → Wanted Q K
  appends_data : List ℕ → Wanted Q K
  moves_mark : ℕ → Wanted Q K
  resizes : (cols rows : ℕ) → Wanted Q K
  exits : Wanted Q K
  ignores : Wanted Q K
  sets_prompt : List ℕ → Wanted Q K
  sends_message : List ℕ → Wanted Q K
  shows_prompt : Bool → Wanted Q K
  follows : Bool → Wanted Q K
  types : ℕ → Wanted Q K
  restores_prompt : Wanted Q K
  redraws_prompt : Wanted Q K
  redraws_page : Wanted Q K
  hands_over : Handing Q K → Wanted Q K
  sets_numbers : LineNumbers → Wanted Q K
  sets_wrapping : Bool → Wanted Q K
  sets_match_lines : Bool → Wanted Q K
  sets_carry_style : Bool → Wanted Q K
  shifts : ℕ → Wanted Q K
  starts_selection : (x y : ℕ) → Wanted Q K
  updates_selection : (x y : ℕ) → Wanted Q K
  clears_selection : Wanted Q K
  copies_selection : Wanted Q K
  shows_help : Option (List ℕ) → Wanted Q K
  moves_to_next_match : ℕ → Wanted Q K
  moves_to_prev_match : ℕ → Wanted Q K
  searches : SearchMode → Wanted Q K
  fetches_query : Wanted Q K

-- the table: the shape of each command
abbrev pub shape : {Q K : Type 0} → Control → Wanted Q K → Shape Q K
shape c (sets_data text) = shows (with_text c text) (not (help_open c)) None
shape c (appends_data text) = appends text
shape c (moves_mark mark) = moves c.settings c.search_mark (Some mark)
shape c (resizes cols rows) = shows (reformed (record c { cols = cols; rows = rows })) true None
shape c exits = leaves
shape c ignores = stays
shape c (sets_prompt text) = sets (with_prompt c text).settings
shape c (sends_message text) = sets (with_message c text).settings
shape c (shows_prompt is_shown) = sets (record c.settings { is_shown = is_shown })
shape c (follows follow) = moves (record c.settings { follow = follow }) c.search_mark (Some (top c))
shape c (types character) = sets (record c.settings { prefix = c.settings.prefix ++ encode_utf8 character })
shape c restores_prompt = restores
shape c redraws_prompt = draws_row
shape c redraws_page = shows c true None
shape c (hands_over handing) = registers handing
shape c (sets_numbers numbers) = shows (reformed (record c { numbers = numbers })) true None
shape c (sets_wrapping wrapping) = shows (reformed (record c { wrapping = wrapping })) true None
shape c (sets_match_lines match_lines) = shows (reformed (record c { match_lines = match_lines })) true None
shape c (sets_carry_style carry_style) = shows (reformed (record c { carry_style = carry_style })) true None
shape c (shifts left) = shows (record c { left = left_after c left }) (may_shift c left) None
shape c (starts_selection x y) =
    shows (record c { ends = ends_begun c.ends (end_at c x y) }) (is_some (end_at c x y)) None
shape c (updates_selection x y) =
    shows (record c { mark = mark_led c y; ends = ends_led c x y }) (not (stays_led c x y)) None
shape c clears_selection = shows (record c { ends = no_ends }) (has_ends c.ends) None
shape c copies_selection =
    shows (record c { ends = no_ends }) (has_ends c.ends) (copied (document_of c) (ends_in_order c.ends))
shape c (shows_help text) = shows (toggled_with c text) true None
shape c (moves_to_next_match jump) = moves c.settings (next_match c jump) (next_match_row c jump)
shape c (moves_to_prev_match jump) = moves c.settings (prev_match c jump) (prev_match_row c jump)
shape c (searches mode) = opens mode
shape c fetches_query = opens c.mode

-- what a command does
abbrev pub effect_of : {Q K : Type 0} → Control → Wanted Q K → Effect
effect_of c w = effect c (shape c w)

-- what is registered, if something is
abbrev pub handed : {Q K : Type 0} → Wanted Q K → Option (Handing Q K)
handed (hands_over handing) = Some handing
handed w = None

-- it can be done: a size is one of a terminal, and a prompt or a message has no newline
abbrev pub IsPossible : {Q K : Type 0} → Wanted Q K → Type 0
IsPossible (resizes cols rows) = IsSize cols rows
IsPossible (sets_prompt text) = has_newline text ≡ false
IsPossible (sends_message text) = has_newline text ≡ false
IsPossible w = Unit {0}

-- a prompt or a message that has a newline
abbrev pub HasNewline : {Q K : Type 0} → Wanted Q K → Type 0
HasNewline (sets_prompt text) = has_newline text ≡ true
HasNewline (sends_message text) = has_newline text ≡ true
HasNewline w = ⊥

-- why it cannot be done: for a newline, or for a size that is none of a terminal
abbrev pub IsFault : {Q K : Type 0} → Refusal → Wanted Q K → Type 0
IsFault for_newline w = HasNewline w
IsFault (for_size cols rows) w = (w ≡ resizes cols rows) × (IsSize cols rows → ⊥)
IsFault refusal w = ⊥

-- why it cannot be performed beside these ids of hooks: for a newline or a size, or for an id
abbrev pub IsFaultBeside : {Q K : Type 0} → List HookId → Refusal → Wanted Q K → Type 0
IsFaultBeside ids (for_hook_id hook id) w = (w ≡ hands_over (a_callback hook id)) × (is_taken ids hook id ≡ true)
IsFaultBeside ids for_free_hook_id w = (handing : Handing _ _) × (w ≡ hands_over handing) × HasNoNext ids handing
IsFaultBeside ids refusal w = IsFault refusal w

-- the control after a move of the mark, if it is moved
abbrev pub moved : Control → Option ℕ → Control
moved c to = record c { mark = unwrap_or to c.mark }

-- the control after an effect: its move, and the clamp, which ends each
abbrev pub changed_by : Effect → Control
changed_by e = clamp (moved e.changed e.moves_to)

-- the control that a command leaves: the typed prefix goes last, or stays
abbrev pub control_after : {Q K : Type 0} → Bool → Control → Wanted Q K → Control
control_after clears c w = cleared clears (changed_by (effect_of c w))

-- how an effect is drawn over the page of a control
abbrev pub drawn_by : Control → Effect → Drawing
drawn_by c e = drawing_by e.redraw c (changed_by e).mark

-- how the result of a request is drawn over the page of a control
abbrev pub drawing_of : {Q K : Type 0} → Control → Wanted Q K → Drawing
drawing_of c w = drawn_by c (effect_of c w)

-- the hook whose callbacks are called after what moves the mark, or moves none, and after
-- which the page shows an end, or not
abbrev pub end_hook : Bool → Bool → Option Hook
end_hook is_move at_end = if is_move && at_end then Some EofReached else None

-- whether the page shows the end of more rows than the terminal has
abbrev pub is_at_end : Control → Bool
is_at_end c = shows_end (length (text_rows c)) c.rows c.mark

-- the hook whose callbacks are called after what a request asks for, if one is: a move, also
-- one where the mark stays, has come to the end
abbrev pub hook_after : {Q K : Type 0} → Control → Wanted Q K → Option Hook
hook_after c w = end_hook (is_some (effect_of c w).moves_to) (is_at_end (changed_by (effect_of c w)))

-- the work of a request, after which the typed prefix goes, or stays
abbrev pub work_of : {Q K : Type 0} → Bool → Control → Wanted Q K → Work
work_of clears c w = record { drawing = drawing_of c w; left = control_after clears c w; hook = hook_after c w }

-- what is not drawn in full keeps the size
abbrev pub ResizesAreFull : Type 0 → Type 0 → Type 0
ResizesAreFull Q K =
    (c : Control) (w : Wanted Q K) → is_full (drawing_of c w) ≡ false → SameSize c (changed_by (effect_of c w))

-- what leaves help where it is open
pub data LeavesHelp {Q K : Type 0} : Wanted Q K → Type 0 where
  by_prompt : LeavesHelp restores_prompt
  by_help : {text : Option (List ℕ)} → LeavesHelp (shows_help text)
  by_exit : LeavesHelp exits

-- help that is opened and left at once leaves no trace: the text, its layout, the size, both marks, what is selected,
-- the term, the prompt and whether the page goes on with what is appended are as they were; the message is gone, and
-- the search mark is that of rows formed again
abbrev pub HelpLeavesNoTrace : Type 0 → Type 0 → Type 0
HelpLeavesNoTrace Q K =
    (c : Control) (text : Option (List ℕ)) (leaving : Wanted Q K) → c.help ≡ None → IsClamped c → LeavesHelp leaving
    → changed_by (effect_of (changed_by (effect_of {Q = Q} {K = K} c (shows_help text))) leaving)
    ≡ reformed (record c { settings = record c.settings { message = None } })
