-- What is selected: its two ends, each a row and a column, counted from 0.
use Rattle.std.specs.Prelude.{ℕ, ◌+◌, ◌-◌, ◌^◌, ◌==◌, ◌&&◌, ◌||◌, Bool, nat_le, nat_lt, min, Option, None, Some}
use Rattle.std.specs.Prelude.{option_map, if◌then◌else◌}
use Rattle.minus_state.specs.declared.selection.Selection.{Selection}
use Rattle.minus_state.specs.declared.selection.SelectionEnds.{SelectionEnds}

-- whether an end comes first, by row and then by column
abbrev pub comes_first : Selection → Selection → Bool
comes_first a b = nat_lt a.absolute_row b.absolute_row || ((a.absolute_row == b.absolute_row) && nat_le a.col b.col)

-- the two ends in order
abbrev pub in_order : Selection → Selection → Selection × Selection
in_order a b = if comes_first a b then (a, b) else (b, a)

-- both ends of a selection in order, if there are both
abbrev pub both_in_order : Option Selection → Option Selection → Option (Selection × Selection)
both_in_order None b = None
both_in_order (Some a) None = None
both_in_order (Some a) (Some b) = Some (in_order a b)

-- both ends of a selection, the first one first, if there are both
abbrev pub ends_in_order : SelectionEnds → Option (Selection × Selection)
ends_in_order ends = both_in_order ends.anchor ends.selection

-- whether a row is between two ends in order
abbrev pub is_between : Selection → Selection → ℕ → Bool
is_between first last row = nat_le first.absolute_row row && nat_le row last.absolute_row

-- the greatest number: sums go no further
abbrev pub greatest : ℕ
greatest = 2 ^ 64 - 1

-- the column of a row between the ends, counted from 0, where the selection begins
abbrev pub first_column : Selection → ℕ → ℕ
first_column first row = if row == first.absolute_row then first.col else 0

-- the column behind the last that is selected in a row between the ends, counted from 0;
-- none where the selection goes to the row's end
abbrev pub column_behind : Selection → ℕ → Option ℕ
column_behind last row = if row == last.absolute_row then Some (min (last.col + 1) greatest) else None

-- the number of a row's visible character at a column, where `prefix` columns stand before the
-- text and `cut` columns are cut off at the left
abbrev pub visible_at : ℕ → ℕ → ℕ → ℕ
visible_at prefix cut column = min (prefix + (column - cut)) greatest

-- the visible characters of a row that are marked, from the first up to but without the other
abbrev pub marked_range : Selection → Selection → ℕ → ℕ → ℕ → Option (ℕ × Option ℕ)
marked_range first last row prefix cut =
    if is_between first last row then
    Some (visible_at prefix cut (first_column first row), option_map (visible_at prefix cut) (column_behind last row))
    else None
