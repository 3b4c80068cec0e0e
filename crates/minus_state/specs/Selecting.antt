-- What events of the mouse select.
use Rattle.std.specs.Prelude.{ℕ, ◌+◌, ◌-◌, ◌==◌, ◌&&◌, ◌||◌, nat_le, nat_lt, min, is_some, not, Bool, true, false}
use Rattle.std.specs.Prelude.{Option, None, Some, if◌then◌else◌}
use Rattle.minus_term.specs.PageRows.{page_len}
use Rattle.minus_state.specs.declared.selection.Selection.{Selection}
use Rattle.minus_state.specs.declared.selection.SelectionEnds.{SelectionEnds}
use Rattle.minus_state.specs.View.{selected_at}
use Rattle.minus_state.specs.Control.{Control, document_of}
use Rattle.minus_state.specs.ClampedMark.{top}

-- nothing is selected
abbrev pub no_ends : SelectionEnds
no_ends = record { anchor = None; selection = None }

-- whether an end of a selection is there
abbrev pub has_ends : SelectionEnds → Bool
has_ends ends = is_some ends.anchor || is_some ends.selection

-- the end of a selection at a place of the page: none while a term is searched for, none without a row of
-- text, and none at the prompt's row or below
abbrev pub end_at : Control → ℕ → ℕ → Option Selection
end_at c x y =
    if is_some c.term then None
    else selected_at (document_of c) (record { upper_mark = c.mark; left_mark = c.left; rows = c.rows }) x y

-- a selection begins at an end, if there is one
abbrev pub ends_begun : SelectionEnds → Option Selection → SelectionEnds
ends_begun ends None = ends
ends_begun ends (Some end) = record { anchor = Some end; selection = Some end }

-- whether the mouse drags a selection: one has begun, no term is searched for, and the page has rows of text
abbrev pub is_led : Control → Bool
is_led c = (not (is_some c.term) && is_some c.ends.anchor) && nat_lt 1 c.rows

-- the mark after a selection is dragged to row y of the page, counted from 0: in the first row it goes up by a row, and
-- in the prompt's row or below down by one, as far as the text goes
abbrev pub mark_led_to : Control → ℕ → ℕ
mark_led_to c y = if y == 0 then c.mark - 1 else if nat_le (page_len c.rows) y then min (c.mark + 1) (top c) else c.mark

-- the mark after a drag to row y of the page, counted from 0; it stays where no selection is dragged
abbrev pub mark_led : Control → ℕ → ℕ
mark_led c y = if is_led c then mark_led_to c y else c.mark

-- a selection is dragged to an end, if there is one
abbrev pub ends_led_to : SelectionEnds → Option Selection → SelectionEnds
ends_led_to ends None = ends
ends_led_to ends (Some end) = record { anchor = ends.anchor; selection = Some end }

-- the ends of a selection after a drag to column x and row y of the page, counted from 0: the second is at that place
-- after the mark moved, and below the page's last row of text, in that row
abbrev pub ends_led : Control → ℕ → ℕ → SelectionEnds
ends_led c x y =
    if is_led c then ends_led_to c.ends (end_at (record c { mark = mark_led_to c y }) x (min y (c.rows - 2)))
    else c.ends

-- whether two ends are the same, or both missing
abbrev pub is_same_end : Option Selection → Option Selection → Bool
is_same_end None None = true
is_same_end None (Some b) = false
is_same_end (Some a) None = false
is_same_end (Some a) (Some b) = (a.absolute_row == b.absolute_row) && (a.col == b.col)

-- whether a drag to column x and row y leaves mark and selection where they are
abbrev pub stays_led : Control → ℕ → ℕ → Bool
stays_led c x y = (mark_led c y == c.mark) && is_same_end (ends_led c x y).selection c.ends.selection
