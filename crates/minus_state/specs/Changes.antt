-- What a command leaves, formed beside the state.
use Rattle.std.specs.Prelude.{◌≡◌, ℕ, List, length, take, drop, Option, None, Some, string_bytes}
use Rattle.std.specs.Option.{option_map, unwrap_or}
use Rattle.minus_term.specs.PageRows.{page_len}
use Rattle.minus_text.specs.Searched.{searched}
use Rattle.minus_state.specs.declared.state.PagerState.{PagerState}
use Rattle.minus_state.specs.declared.change.Change.{Change}
use Rattle.minus_state.specs.declared.change.MessageChange.{MessageChange}
use Rattle.minus_state.specs.declared.change.MessageChange.TheVariants as messages
use Rattle.minus_state.specs.declared.change.NextText.TheVariants.{Same}
use Rattle.minus_state.specs.declared.change.Redraw.{Redraw}
use Rattle.minus_state.specs.declared.search.open_search.SearchChange.TheVariants as searches
use Rattle.minus_state.specs.declared.state.help.HelpChange.{HelpChange}
use Rattle.minus_state.specs.declared.state.help.HelpChange.TheVariants as helps
use Rattle.minus_state.specs.OpenSearches.{search_after}
use Rattle.minus_state.specs.NextTexts.{next_document, next_term, next_found, aside_with, IsNext, FindsNext}
use Rattle.minus_state.specs.Control.{Control, Settings, Saved, document_of}
use Rattle.minus_state.specs.Page.{shown_of}
use Rattle.minus_state.specs.PromptRow.{PromptRow, prompt_row}
use Rattle.minus_state.specs.ShownPrompt.{shown_in}
use Rattle.minus_state.specs.Aside.{aside_in, aside_of}
use Rattle.minus_state.specs.States.{control_of, settings_of, ends_of, term_of, search_of, IsFormed}
use Rattle.minus_state.specs.Sizes.{IsSize}
use Rattle.minus_term.specs.Refusals.{Refusal, for_memory, for_size, for_pattern}

-- the message after a change of it: it stays, goes, or is this text
abbrev pub message_after : MessageChange → Option (List ℕ) → Option (List ℕ)
message_after messages.Stays message = message
message_after messages.Goes message = None
message_after (messages.Says text) message = Some (string_bytes text)

-- what is saved, after help was opened or left
abbrev pub help_after : HelpChange → Option Saved → Option Saved
help_after helps.Stays help = help
help_after (helps.Opens saved) help = Some (aside_in saved.value)
help_after helps.Closes help = None

-- what is saved after a change: the text that is saved was changed before help was opened or left
abbrev pub aside_after : Change → Option Saved → Option Saved
aside_after change help = help_after change.help (aside_with change.text help)

-- what is set beside the text after a change
abbrev pub settings_after : Settings → Change → Settings
settings_after s change = record {
  prompt = unwrap_or (option_map string_bytes change.prompt) s.prompt;
  message = message_after change.message s.message;
  prefix = unwrap_or (option_map string_bytes change.prefix) s.prefix;
  is_shown = change.is_shown;
  follow = change.follow;
}

-- the change leads from one control to the other
pub record IsChange (old : Control) (change : Change) (new : Control) : Type 0 where
  pub belongs : IsNext new.term (searched old.term (document_of old)) change.text
  pub document : next_document (document_of old) change.text ≡ document_of new
  pub mark_is : change.mark ≡ new.mark
  pub cols_are : change.cols ≡ new.cols
  pub rows_are : change.rows ≡ new.rows
  pub left_is : change.left ≡ new.left
  pub ends_are : change.ends ≡ new.ends
  pub term_is : next_term old.term change.text ≡ new.term
  pub search_mark_is : change.search_mark ≡ new.search_mark
  pub settings_are : settings_after old.settings change ≡ new.settings
  pub help_is : aside_after change old.help ≡ new.help
  pub mode_is : change.mode ≡ new.mode
  pub search_is : search_after change.search old.search ≡ new.search

-- the change that leaves a state as it is, and asks for so much to be drawn
abbrev pub as_is : PagerState → Redraw → Change
as_is s redraw = record {
  text = Same;
  mark = s.upper_mark;
  cols = s.cols;
  rows = s.rows;
  search_mark = s.search_mark;
  left = s.left_mark;
  ends = ends_of s;
  is_shown = s.prompt_shown;
  follow = s.follow;
  mode = s.search_state.search_mode;
  prefix = None;
  prompt = None;
  message = messages.Stays;
  help = helps.Stays;
  search = searches.Stays;
  redraw = redraw;
  sized = s.sized;
}

-- the change leads a state to a control, where the state is formed
abbrev pub Leads : PagerState → Change → Control → Type 0
Leads s change new = IsFormed s → IsChange (control_of s) change new

-- this holds of each control that the change leads a formed state to
abbrev pub WhereLed : PagerState → Change → (Control → Type 0) → Type 0
WhereLed s change holds = (new : Control) → IsFormed s → IsChange (control_of s) change new → holds new

-- the change was formed for a state
abbrev pub IsFormedFor : PagerState → Change → Type 0
IsFormedFor s change = IsNext (next_term (term_of s) change.text) s.screen change.text

-- what is set beside the text stays
pub record KeepsBeside (s t : PagerState) : Type 0 where
  pub left : t.left_mark ≡ s.left_mark
  pub ends : ends_of t ≡ ends_of s
  pub settings : settings_of t ≡ settings_of s
  pub mode : t.search_mode ≡ s.search_mode
  pub search_state : t.search_state ≡ s.search_state
  pub search : search_of t ≡ search_of s

-- a state in which a change of another one was put in its place: its rows are what its term
-- finds where the change was searched for it
pub record IsPlaced (s : PagerState) (change : Change) (t : PagerState) : Type 0 where
  pub document : t.screen.document ≡ next_document s.screen.document change.text
  pub found : FindsNext (term_of s) s.screen change.text t.screen
  pub numbers : t.line_numbers ≡ (next_document s.screen.document change.text).layout.numbers
  pub mark : t.upper_mark ≡ change.mark
  pub left : t.left_mark ≡ change.left
  pub ends : ends_of t ≡ change.ends
  pub term : term_of t ≡ next_term (term_of s) change.text
  pub search_mark : t.search_mark ≡ change.search_mark
  pub mode : t.search_mode ≡ t.search_state.search_mode
  pub search_mode : t.search_state.search_mode ≡ change.mode
  pub cols : t.cols ≡ change.cols
  pub rows : t.rows ≡ change.rows
  pub settings : settings_of t ≡ settings_after (settings_of s) change
  pub help : aside_of t.saved ≡ aside_after change (aside_of s.saved)
  pub search : search_of t ≡ search_after change.search (search_of s)

-- what the prompt row of a state is formed of
abbrev pub shown_prompt : PagerState → PromptRow
shown_prompt s = shown_in s.cols (settings_of s) s.screen.document.layout.match_lines s.screen.found s.search_mark

-- what the prompt row of a state is formed of after a change
abbrev pub prompt_after : PagerState → Change → PromptRow
prompt_after s change =
    shown_in change.cols (settings_after (settings_of s) change)
    (next_document s.screen.document change.text).layout.match_lines
    (next_found s.screen.found change.text) change.search_mark

-- the prompt row of a state, as bytes
abbrev pub displayed_prompt : PagerState → List ℕ
displayed_prompt s = prompt_row (shown_prompt s)

-- the prompt row of a state after a change, as bytes
abbrev pub prompt_row_after : PagerState → Change → List ℕ
prompt_row_after s change = prompt_row (prompt_after s change)

-- the rows of text on the page that a change of a state leads to
abbrev pub shown_by : PagerState → Change → List (List ℕ)
shown_by s change =
    take (page_len change.rows) (drop change.mark (shown_of (next_term (term_of s) change.text)
    (next_document s.screen.document change.text) change.left change.ends))

-- why a state was not resized: the numbers of columns and rows are no size, or they are, and the state is out of memory
abbrev pub IsUnresized : Refusal → ℕ → ℕ → Type 0
IsUnresized for_memory cols rows = IsSize cols rows
IsUnresized (for_size c r) cols rows = (c ≡ cols) × (r ≡ rows) × (IsSize cols rows → ⊥)
IsUnresized refusal cols rows = ⊥

-- why a state with these numbers of columns and rows was not formed: they are no size; or they are, and there was
-- no memory, or a fixed pattern was not built
abbrev pub IsUnformedState : Refusal → ℕ → ℕ → Type 0
IsUnformedState for_memory cols rows = IsSize cols rows
IsUnformedState for_pattern cols rows = IsSize cols rows
IsUnformedState (for_size c r) cols rows = (c ≡ cols) × (r ≡ rows) × (IsSize cols rows → ⊥)
IsUnformedState refusal cols rows = ⊥
