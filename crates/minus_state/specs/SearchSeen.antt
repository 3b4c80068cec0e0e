-- What the condition of an incremental search sees.
use Rattle.std.specs.Prelude.{◌≡◌, ℕ, [], Option, None, Some, chars, string_bytes}
use Rattle.minus_term.specs.declared.event.Event.{Event}
use Rattle.minus_text.specs.Document.{line_map}
use Rattle.minus_state.specs.declared.search.InputStatus.TheVariants.{Active}
use Rattle.minus_state.specs.declared.search.keys.QueryEdit.{QueryEdit}
use Rattle.minus_state.specs.declared.search.keys.QueryEdit.TheVariants as edits
use Rattle.minus_state.specs.declared.search.opts.IncrementalSearchOpts.{IncrementalSearchOpts}
use Rattle.minus_state.specs.declared.search.opts.SearchOpts.{SearchOpts}
use Rattle.minus_state.specs.declared.state.PagerState.{PagerState}
use Rattle.minus_state.specs.OpenPrompts.{Prompt, fed}
use Rattle.minus_state.specs.QueryEditor.{Editor, edited, starts_of}
use Rattle.minus_state.specs.QueryKeys.{edit_of}
use Rattle.minus_state.specs.SearchMode.{char_of}

-- these are the text with its rows and lines, the numbers and the marks of a state
pub record IsSeenOf (s : PagerState) (o : IncrementalSearchOpts) : Type 0 where
  pub numbers : o.line_numbers ≡ s.line_numbers
  pub mark : o.initial_upper_mark ≡ s.upper_mark
  pub screen : o.screen.now ≡ s.screen
  pub map : o.lines_to_row_map.now ≡ line_map s.screen.document
  pub left : o.initial_left_mark ≡ s.left_mark

-- what of a state is seen, which is there
abbrev pub IsThere : PagerState → Option IncrementalSearchOpts → Type 0
IsThere s None = ⊥
IsThere s (Some o) = IsSeenOf s o

-- what is seen before an event is fed to the prompt of a search that a state began
pub record AreFirstOpts (s : PagerState) (o : SearchOpts) : Type 0 where
  pub event : o.ev ≡ None
  pub query : string_bytes o.string ≡ []
  pub status : o.input_status ≡ Active
  pub cursor : o.cursor_position ≡ 1
  pub mode : o.search_mode ≡ s.search_state.search_mode
  pub words : o.word_index.items ≡ []
  pub char : Some o.search_char ≡ char_of s.search_state.search_mode
  pub rows : o.rows ≡ s.rows
  pub cols : o.cols ≡ s.cols
  pub seen : IsThere s o.incremental_search_options

-- where the cursor is seen after an edit: at an insertion where it was, before it follows
abbrev pub cursor_seen : Editor → QueryEdit → ℕ
cursor_seen e (edits.Inserts character) = e.cursor
cursor_seen e edit = (edited e edit).cursor

-- what is seen after an event has edited the query of a prompt, in a state: that event, and
-- the new query with the starts of its words
pub record AreOptsAfter (s : PagerState) (p : Prompt) (e : Event) (o : SearchOpts) : Type 0 where
  pub event : o.ev ≡ Some e
  pub query : chars (string_bytes o.string) ≡ (fed p (edit_of e)).editor.query
  pub status : o.input_status ≡ Active
  pub cursor : o.cursor_position ≡ cursor_seen p.editor (edit_of e)
  pub mode : o.search_mode ≡ p.mode
  pub words : o.word_index.items ≡ starts_of (fed p (edit_of e)).editor.query
  pub char : Some o.search_char ≡ char_of p.mode
  pub rows : o.rows ≡ s.rows
  pub cols : o.cols ≡ s.cols
  pub seen : IsThere s o.incremental_search_options
