-- What contracts read of a state.
use Rattle.std.specs.Prelude.{◌≡◌, ℕ, [], Option, None, true, false, codes, string_bytes}
use Rattle.std.specs.Option.{option_map}
use Rattle.regex.specs.Patterns.{Re}
use Rattle.regex.specs.Strings.{regex_pattern}
use Rattle.minus_text.specs.declared.line_numbers.LineNumbers.TheVariants.{Disabled}
use Rattle.minus_text.specs.Searched.{searched}
use Rattle.minus_state.specs.declared.selection.SelectionEnds.{SelectionEnds}
use Rattle.minus_state.specs.declared.state.PagerState.{PagerState}
use Rattle.minus_state.specs.declared.state.term.KeptTerm.{KeptTerm}
use Rattle.minus_state.specs.declared.state.term.KeptTerm.TheVariants.{Own, Shown}
use Rattle.minus_state.specs.declared.search.SearchMode.TheVariants.{Unknown}
use Rattle.minus_state.specs.Control.{Control, Settings, document_of}
use Rattle.minus_state.specs.Aside.{aside_of}
use Rattle.minus_state.specs.OpenSearches.{OpenSearch, seen_search}

-- what is set in a state beside its text
abbrev pub settings_of : PagerState → Settings
settings_of s = record {
  prompt = string_bytes s.prompt;
  message = option_map string_bytes s.message;
  prefix = string_bytes s.prefix_num;
  is_shown = s.prompt_shown;
  follow = s.follow;
}

-- the ends of what is selected
abbrev pub ends_of : PagerState → SelectionEnds
ends_of s = record { anchor = s.anchor; selection = s.selection }

-- the pattern of a term that is kept
abbrev pub pattern_kept : KeptTerm → Re
pattern_kept (Own pattern) = regex_pattern pattern
pattern_kept (Shown pattern) = regex_pattern pattern.value

-- the term that is searched for, if there is one
abbrev pub term_of : PagerState → Option Re
term_of s = option_map pattern_kept s.term

-- the search prompt that is open, if one is
abbrev pub search_of : PagerState → Option OpenSearch
search_of s = option_map seen_search s.open_search

-- the control that a state holds
abbrev pub control_of : PagerState → Control
control_of s = record {
  text = s.screen.document.text;
  cols = s.cols;
  rows = s.rows;
  numbers = s.line_numbers;
  wrapping = s.screen.document.layout.wrapping;
  match_lines = s.screen.document.layout.match_lines;
  carry_style = s.screen.document.layout.carry_style;
  mark = s.upper_mark;
  left = s.left_mark;
  ends = ends_of s;
  term = term_of s;
  search_mark = s.search_mark;
  settings = settings_of s;
  help = aside_of s.saved;
  mode = s.search_state.search_mode;
  search = search_of s;
}

-- the stored rows are those of the control's document, what is kept as found in them is what its term finds,
-- and the direction of the last search is one
pub record IsFormed (s : PagerState) : Type 0 where
  pub screen : s.screen ≡ searched (term_of s) (document_of (control_of s))
  pub mode : s.search_mode ≡ (control_of s).mode

-- the prompt, no message and no prefix; the prompt row is shown, and the page stays where it is at an append
abbrev pub first_settings : Settings
first_settings = record { prompt = codes "minus"; message = None; prefix = []; is_shown = true; follow = false }

-- no text, lines without numbers and wrapped, searches in rows, no styles carried, the marks at the first row and
-- column, nothing selected, no term, and no prompt open
abbrev pub at_start : ℕ → ℕ → Control
at_start cols rows = record {
  text = [];
  cols = cols;
  rows = rows;
  numbers = Disabled;
  wrapping = true;
  match_lines = false;
  carry_style = false;
  mark = 0;
  left = 0;
  ends = record { anchor = None; selection = None };
  term = None;
  search_mark = 0;
  settings = first_settings;
  help = None;
  mode = Unknown;
  search = None;
}
