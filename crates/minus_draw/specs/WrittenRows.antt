-- Stored rows that are handed in, and written as they are or, where lines are not wrapped, from a left mark on.
use Rattle.std.specs.Prelude.{ℕ, zero, suc, ◌-◌, ◌==◌, Bool, true, false, nat_lt, min, List, ◌∷◌, ◌++◌, length, map}
use Rattle.std.specs.Prelude.{take, drop, slice_index, if◌then◌else◌}
use Rattle.std.specs.Fmt.{is_char_start}
use Rattle.std.specs.List.{flat_map}
use Rattle.std.specs.Io.KnownBytes.{Appends}
use Rattle.minus_term.specs.Counts.{SinkSeen}
use Rattle.minus_term.specs.Operations.{Op, GoTo, ClearAll}
use Rattle.minus_term.specs.declared.error.MinusError.{MinusError}
use Rattle.minus_draw.specs.declared.written_rows.RowStyle.{RowStyle}
use Rattle.minus_term.specs.FullRedraw.{row_ops}
use Rattle.minus_term.specs.Top.{top_of}
use Rattle.minus_term.specs.PageRows.{page_len}
use Rattle.minus_term.specs.Written.{written_all}
use Rattle.minus_term.specs.Writes.{WriteRefuses}
use Rattle.minus_text.specs.Crop.{cropped}
use Rattle.minus_text.specs.NumberPrefix.{is_on, prefix_columns}
use Rattle.minus_text.specs.declared.line_numbers.LineNumbers.{LineNumbers}
use Rattle.minus_state.specs.LineBounds.{prefix_bytes}

-- whether a text may be cut at a place: it ends there, or a character begins there
abbrev pub is_cut : List ℕ → ℕ → Bool
is_cut text place = if nat_lt place (length text) then is_char_start (slice_index text place) else place == length text

-- the greatest place up to a number where a text may be cut
abbrev pub last_cut : List ℕ → ℕ → ℕ
last_cut text zero = 0
last_cut text (suc n) = if is_cut text (suc n) then suc n else last_cut text n

-- where the prefix of a stored row ends, in bytes, where numbers are on or not and the text has this number of lines
abbrev pub prefix_end : Bool → ℕ → List ℕ → ℕ
prefix_end numbers line_count row = last_cut row (prefix_bytes numbers line_count)

-- the bytes of a row before a place, and of what follows it `width` columns from the left mark on
abbrev pub cropped_behind : ℕ → ℕ → ℕ → List ℕ → List ℕ
cropped_behind place left width row = take place row ++ cropped left width (drop place row)

-- a stored row in `cols` columns: its prefix, and in the columns that this leaves its text from the left mark on
abbrev pub row_from : ℕ → ℕ → Bool → ℕ → List ℕ → List ℕ
row_from cols left numbers line_count row =
    cropped_behind (prefix_end numbers line_count row) left (cols - prefix_columns numbers line_count) row

-- the row as it is where lines are wrapped, and else so
abbrev pub written_row : Bool → ℕ → ℕ → Bool → ℕ → List ℕ → List ℕ
written_row true cols left numbers line_count row = row
written_row false cols left numbers line_count row = row_from cols left numbers line_count row

-- the list that puts such rows one below another
abbrev pub lines_ops : Bool → ℕ → ℕ → Bool → ℕ → List (List ℕ) → List Op
lines_ops wrapping cols left numbers line_count lines =
    flat_map row_ops (map (written_row wrapping cols left numbers line_count) lines)

-- those of some lines that are on a page with this number of rows, the prompt's among them: from the mark on, which is
-- at most the one at which the last page is full
abbrev pub lines_of_page : {X : Type 0} → ℕ → ℕ → List X → List X
lines_of_page mark rows lines = take (page_len rows) (drop (min mark (top_of (length lines) rows)) lines)

-- the list that puts these alone on the screen, from its top
abbrev pub text_ops : ℕ → ℕ → Bool → ℕ → ℕ → Bool → ℕ → List (List ℕ) → List Op
text_ops mark rows wrapping cols left numbers line_count lines =
    GoTo 0 0 ∷ ClearAll ∷ lines_ops wrapping cols left numbers line_count (lines_of_page mark rows lines)

-- a stored row as it is written in a style
abbrev pub styled_row : RowStyle → List ℕ → List ℕ
styled_row s row = written_row s.wrapping s.cols s.left_mark s.numbers s.line_count row

-- the list that puts stored rows one below another in a style
abbrev pub styled_lines : RowStyle → List (List ℕ) → List Op
styled_lines s lines = lines_ops s.wrapping s.cols s.left_mark s.numbers s.line_count lines

-- the list that puts the stored rows of a page alone on the screen in a style, from the mark
-- on, on a terminal with this number of rows
abbrev pub styled_text : ℕ → ℕ → RowStyle → List (List ℕ) → List Op
styled_text mark rows s lines = text_ops mark rows s.wrapping s.cols s.left_mark s.numbers s.line_count lines

-- the sink took the bytes that put these stored rows one below another
abbrev pub AddsLines : (old new : SinkSeen) → Bool → ℕ → ℕ → Bool → ℕ → List (List ℕ) → Type 0
AddsLines old new wrapping cols left numbers line_count lines =
    Appends old.bytes new.bytes (written_all (lines_ops wrapping cols left numbers line_count lines))

-- the sink took the bytes that put the stored rows of a page alone on the screen
abbrev pub AddsText : (old new : SinkSeen) → ℕ → ℕ → Bool → ℕ → ℕ → LineNumbers → ℕ → List (List ℕ) → Type 0
AddsText old new mark rows wrapping cols left numbers line_count lines =
    Appends old.bytes new.bytes (written_all (text_ops mark rows wrapping cols left (is_on numbers) line_count lines))

module _ {W : Type 0} (seen : W → SinkSeen) (e : MinusError) (old new : W) where
  -- the write of these stored rows one below another was refused for `e`: nothing was
  -- written, or a beginning of their bytes
  abbrev pub LinesRefused : Bool → ℕ → ℕ → Bool → ℕ → List (List ℕ) → Type 0
  LinesRefused wrapping cols left numbers line_count lines =
      WriteRefuses seen e old new (written_all (lines_ops wrapping cols left numbers line_count lines))

  -- the write of the stored rows of a page alone on the screen was refused for `e`: nothing
  -- was written, or a beginning of their bytes
  abbrev pub TextRefused : ℕ → ℕ → Bool → ℕ → ℕ → LineNumbers → ℕ → List (List ℕ) → Type 0
  TextRefused mark rows wrapping cols left numbers line_count lines =
      WriteRefuses seen e old new (written_all (text_ops mark rows wrapping cols left (is_on numbers) line_count lines))
