-- What an append leaves.
use Rattle.std.specs.Prelude.{ℕ, ◌-◌, ◌&&◌, min, not, List, Bool, ◌++◌, length, Option, None, Some, if◌then◌else◌}
use Rattle.minus_text.specs.Document.{unfinished_rows, keeps_rows}
use Rattle.minus_state.specs.declared.change.AppendStyle.{AppendStyle}
use Rattle.minus_state.specs.declared.change.AppendStyle.TheVariants.{PartialUpdate, FullRedraw}
use Rattle.minus_state.specs.Help.{help_open, more_aside}
use Rattle.minus_state.specs.Control.{Control, document_of, text_rows, matches_of, reformed}
use Rattle.minus_state.specs.ClampedMark.{top}

-- the first row that an append may change: that of the line that no newline ends, or the first new one
abbrev pub first_changed : Control → ℕ
first_changed c = length (text_rows c) - unfinished_rows (document_of c)

-- whether a text that is appended leaves the rows before that as they are: its lines' numbers take no more columns then
abbrev pub keeps_rows_with : Control → List ℕ → Bool
keeps_rows_with c text = keeps_rows (document_of c) text c.numbers c.cols

-- where an append leaves the search mark: at most at the last match, or, where all rows
-- are formed again, as that sets it
abbrev pub search_mark_behind : Control → List ℕ → ℕ
search_mark_behind c text =
    let new : Control = record c { text = c.text ++ text } in
    if keeps_rows_with c text then min c.search_mark (length (matches_of new) - 1) else (reformed new).search_mark

-- a text that is added at the end, where the mark stays
abbrev pub lengthened : Control → List ℕ → Control
lengthened c text = record c { text = c.text ++ text; search_mark = search_mark_behind c text }

-- a text is added at the end of the displayed text; while help is open, at the end of the saved one
abbrev pub with_more : Control → List ℕ → Control
with_more c text = record c {
  text = if help_open c then c.text else c.text ++ text;
  search_mark = if help_open c then c.search_mark else search_mark_behind c text;
  help = more_aside text c.help;
}

-- where that moves the mark: to the last page, where the page goes on with what is appended; nowhere while help is open
abbrev pub followed : Control → List ℕ → Option ℕ
followed c text = if not (help_open c) && c.settings.follow then Some (top (with_more c text)) else None

-- how a text is appended: the rows before the first that it may change stay, and the number of rows after
-- the append is told; or all are formed again
abbrev pub append_style : Control → List ℕ → AppendStyle
append_style c text =
    if keeps_rows_with c text
    then PartialUpdate (first_changed c, length (text_rows (record c { text = c.text ++ text }))) else FullRedraw
