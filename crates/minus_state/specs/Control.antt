-- What the commands define: the displayed text and how it is laid out, the size, the part of it that
-- the page shows, and what is set beside it.
use Rattle.std.specs.Prelude.{◌≡◌, ℕ, List, Option, None, Some, Bool}
use Rattle.regex.specs.Patterns.{Re}
use Rattle.minus_text.specs.declared.layout.Layout.{Layout}
use Rattle.minus_text.specs.declared.line_numbers.LineNumbers.{LineNumbers}
use Rattle.minus_text.specs.Document.{Document, rows_of}
use Rattle.minus_text.specs.Found.{jump_rows}
use Rattle.minus_text.specs.Finds.{finds}
use Rattle.minus_state.specs.declared.selection.SelectionEnds.{SelectionEnds}
use Rattle.minus_state.specs.declared.search.SearchMode.{SearchMode}
use Rattle.minus_state.specs.OpenSearches.{OpenSearch}
use Rattle.minus_state.specs.SearchMark.{search_mark_anew}

-- what is set beside the text: the prompt, a message in its place, the prefix that is typed, whether the prompt row is
-- shown, and whether the page goes on with what is appended
pub record Settings : Type 0 where
  pub prompt : List ℕ
  pub message : Option (List ℕ)
  pub prefix : List ℕ
  pub is_shown : Bool
  pub follow : Bool

-- what is saved while help is open: the text, whether its lines are wrapped and have numbers, the first row on the
-- page, the columns that are cut off at the left, the prompt, and whether the page goes on with what is appended
pub record Saved : Type 0 where
  pub text : List ℕ
  pub wrapping : Bool
  pub numbers : LineNumbers
  pub mark : ℕ
  pub left : ℕ
  pub prompt : List ℕ
  pub follow : Bool

-- the text, the size, whether lines have numbers and are wrapped, whether a term is searched for in lines, and not in
-- rows, whether rows are put with the styles that their lines carry to them, the first row on the page, the columns
-- that are cut off at the left where lines are not wrapped, the ends of a selection, the term that is searched for, if
-- there is one, and which of the rows that match the prompt row reports, counted from 0; what is set beside them; while
-- help is open, what is saved; the direction of the last search; and, while a search prompt is open, that
pub record Control : Type 0 where
  pub text : List ℕ
  pub cols : ℕ
  pub rows : ℕ
  pub numbers : LineNumbers
  pub wrapping : Bool
  pub match_lines : Bool
  pub carry_style : Bool
  pub mark : ℕ
  pub left : ℕ
  pub ends : SelectionEnds
  pub term : Option Re
  pub search_mark : ℕ
  pub settings : Settings
  pub help : Option Saved
  pub mode : SearchMode
  pub search : Option OpenSearch

-- the document of the displayed text
abbrev pub document_of : Control → Document
document_of c =
    let layout : Layout =
    record {
      cols = c.cols;
      wrapping = c.wrapping;
      numbers = c.numbers;
      match_lines = c.match_lines;
      carry_style = c.carry_style;
    } in
    record { text = c.text; layout = layout }

-- the texts of its rows
abbrev pub text_rows : Control → List (List ℕ)
text_rows c = rows_of (document_of c)

-- the numbers of the rows of a document that match a term, if there is one: those in which a match begins
abbrev pub matches_in : Option Re → Document → List ℕ
matches_in term d = jump_rows (finds term d)

-- the numbers of the rows that match
abbrev pub matches_of : Control → List ℕ
matches_of c = matches_in c.term (document_of c)

-- the rows are formed again, which sets the search mark
abbrev pub reformed : Control → Control
reformed c = record c { search_mark = search_mark_anew c.term (document_of c) c.mark }

-- rows are laid out as a layout says, but for its columns and numbers
abbrev pub laid_as : Control → Layout → Control
laid_as c layout =
    record c { wrapping = layout.wrapping; match_lines = layout.match_lines; carry_style = layout.carry_style }

-- another text in another layout, whose rows are formed again, with the mark at a row
abbrev pub anew_at : Control → List ℕ → Layout → ℕ → Control
anew_at c text layout mark = reformed (record c {
  text = text;
  numbers = layout.numbers;
  wrapping = layout.wrapping;
  match_lines = layout.match_lines;
  carry_style = layout.carry_style;
  mark = mark;
})

-- another term is searched for, or none
abbrev pub searched_for : Control → Option Re → Control
searched_for c term = reformed (record c { term = term })

-- the page goes on with what is appended from now on, or no longer
abbrev pub with_follow : Control → Bool → Control
with_follow c follow = record c { settings = record c.settings { follow = follow } }

-- a message stands in the prompt's place
abbrev pub with_message : Control → List ℕ → Control
with_message c text = record c { settings = record c.settings { message = Some text } }

-- no message stands there
abbrev pub without_message : Control → Control
without_message c = record c { settings = record c.settings { message = None } }

-- the prompt row is shown, or hidden
abbrev pub with_prompt_shown : Control → Bool → Control
with_prompt_shown c is_shown = record c { settings = record c.settings { is_shown = is_shown } }

-- both have the size of the same terminal
pub record SameSize (a b : Control) : Type 0 where
  pub same_cols : a.cols ≡ b.cols
  pub same_rows : a.rows ≡ b.rows
