-- Which part of a document the page shows, and what a place on the page selects.
use Rattle.std.specs.Prelude.{ℕ, ◌+◌, ◌-◌, ◌==◌, ◌||◌, nat_le, min, length, Option, None, Some, if◌then◌else◌}
use Rattle.minus_term.specs.PageRows.{page_len}
use Rattle.minus_text.specs.Document.{Document, rows_of, line_count}
use Rattle.minus_text.specs.NumberPrefix.{is_on, prefix_columns}
use Rattle.minus_state.specs.declared.view.View.{View}
use Rattle.minus_state.specs.declared.selection.Selection.{Selection}
use Rattle.minus_state.specs.Selection.{greatest}

-- the columns that stand before the text of each row
abbrev pub prefix_in : Document → ℕ
prefix_in d = prefix_columns (is_on d.layout.numbers) (line_count d)

-- the columns of the text that are cut off at the left mark: none where lines are wrapped
abbrev pub cut_in : Document → ℕ → ℕ
cut_in d left = if d.layout.wrapping then 0 else left

-- the end of a selection at the column x and the row y of the page: nothing without a row of text, and at the prompt's
-- row or below; a row past the last stands for the last one, and a column in the prefix for the first one behind it.
-- Sums go no further than the greatest number
abbrev pub selected_at : Document → View → ℕ → ℕ → Option Selection
selected_at d view x y =
    if (length (rows_of d) == 0) || nat_le (page_len view.rows) y then None
    else Some (record {
      absolute_row = min (view.upper_mark + y) (length (rows_of d) - 1);
      col = min ((x - prefix_in d) + cut_in d view.left_mark) greatest;
    })
