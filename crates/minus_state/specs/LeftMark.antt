-- When the left mark moves.
use Rattle.std.specs.Prelude.{ℕ, ◌+◌, ◌||◌, nat_le, Bool, false, if◌then◌else◌}
use Rattle.minus_text.specs.Document.{longest}
use Rattle.minus_state.specs.View.{prefix_in}
use Rattle.minus_state.specs.Control.{Control, document_of}

-- the columns that rows take where lines are not wrapped: those of the longest line, and of the number before it
abbrev pub width : Control → ℕ
width c = longest (document_of c) + prefix_in (document_of c)

-- whether the left mark moves to a column: where lines are not wrapped, to the left, or as long as
-- the page does not go beyond the longest line
abbrev pub may_shift : Control → ℕ → Bool
may_shift c left = if c.wrapping then false else nat_le left c.left || nat_le (left + c.cols) (width c)

-- where it is then, and what is drawn: nothing where it stays
abbrev pub left_after : Control → ℕ → ℕ
left_after c left = if may_shift c left then left else c.left
