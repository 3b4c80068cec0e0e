-- The top of the last page: the greatest mark.
use Rattle.std.specs.Prelude.{ℕ, ◌-◌}
use Rattle.minus_term.specs.PageRows.{page_len}

-- the greatest mark of a text with `count` rows on a terminal with `rows` rows, where the last page begins: that
-- page is full where the text has enough rows
abbrev pub top_of : (count rows : ℕ) → ℕ
top_of count rows = count - page_len rows
