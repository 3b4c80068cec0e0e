-- How the lines of a text fill rows.
use Rattle.std.specs.Prelude.{ℕ, ◌+◌, ◌-◌, Bool, true, false, List, [], ◌∷◌, length, if◌then◌else◌}
use Rattle.minus_text.specs.declared.rows.Span.{Span}
use Rattle.minus_text.specs.declared.layout.Wrap.{Wrap}
use Rattle.minus_text.specs.declared.layout.Wrap.TheVariants.{At, Off}
use Rattle.minus_text.specs.declared.layout.Layout.{Layout}
use Rattle.minus_text.specs.declared.line_numbers.LineNumbers.{LineNumbers}
use Rattle.minus_text.specs.declared.line_numbers.LineNumbers.TheVariants.{Disabled}
use Rattle.minus_text.specs.NumberPrefix.{is_on, prefix_columns}
use Rattle.minus_text.specs.Rows.{line_rows, line_places}

-- the rows of a line by itself: those that it fills in some columns, or the line as it is where it is not wrapped
abbrev pub own_rows : Wrap → List ℕ → List (List ℕ)
own_rows (At cols) line = line_rows cols line
own_rows Off line = line ∷ []

-- their places in it
abbrev pub own_places : Wrap → List ℕ → List Span
own_places (At cols) line = line_places cols line
own_places Off line = record { start = 0; end = length line } ∷ []

-- the columns that numbers take from the text of rows, where there are this many lines: what stands before the text,
-- and one more
abbrev pub margin : LineNumbers → ℕ → ℕ
margin numbers line_count = if is_on numbers then prefix_columns true line_count + 1 else 0

-- how lines are wrapped to what is left of some columns, if they are
abbrev pub wrapped : Bool → ℕ → Wrap
wrapped wrapping cols = if wrapping then At cols else Off

-- how this many lines fill rows in a layout
abbrev pub wrap_of : Layout → ℕ → Wrap
wrap_of layout line_count = wrapped layout.wrapping (layout.cols - margin layout.numbers line_count)

-- the layout of this many columns in which lines are wrapped and have no numbers
abbrev pub plain : ℕ → Layout
plain cols = record { cols = cols; wrapping = true; numbers = Disabled; match_lines = false; carry_style = false }

-- a layout with other numbers and columns
abbrev pub relaid : Layout → LineNumbers → ℕ → Layout
relaid layout numbers cols = record layout { cols = cols; numbers = numbers }
