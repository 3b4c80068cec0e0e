-- How much of the page what is formed asks to be drawn.
use Rattle.std.specs.Prelude.{ℕ, List, Bool, not, if◌then◌else◌}
use Rattle.minus_state.specs.declared.change.Redraw.{Redraw}
use Rattle.minus_state.specs.declared.change.Redraw.TheVariants.{Stays, Whole, Appended}
use Rattle.minus_state.specs.Help.{help_open}
use Rattle.minus_state.specs.Control.{Control}
use Rattle.minus_state.specs.Appending.{keeps_rows_with}
use Rattle.minus_state.specs.Selecting.{stays_led}
use Rattle.minus_state.specs.LeftMark.{may_shift}

-- the whole page is drawn where something has changed, and else nothing
abbrev pub whole_where : Bool → Redraw
whole_where changed = if changed then Whole else Stays

-- how much of the page an append asks to be drawn: all of it where it leaves no row as it is
abbrev pub append_redraw : Control → List ℕ → Redraw
append_redraw c text = if keeps_rows_with c text then Appended else Whole

-- how much of the page a move of the left mark to this column asks to be drawn: all of it
-- where the mark may move, and else nothing
abbrev pub shift_redraw : Control → ℕ → Redraw
shift_redraw c left = whole_where (may_shift c left)

-- how much of the page a drag of a selection asks to be drawn: all of it unless mark and selection stay
abbrev pub led_redraw : Control → ℕ → ℕ → Redraw
led_redraw c x y = whole_where (not (stays_led c x y))

-- how much of the page an append asks to be drawn: nothing while help is open, where the saved text grows
abbrev pub added_redraw : Control → List ℕ → Redraw
added_redraw c text = if help_open c then Stays else append_redraw c text
