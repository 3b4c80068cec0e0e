-- What a session has drawn into its buffer, and what it was changed to.
use Rattle.std.specs.Prelude.{◌≡◌, List, ℕ, Option}
use Rattle.std.specs.Option.{unwrap_or}
use Rattle.minus_term.specs.Written.{written_all}
use Rattle.minus_draw.specs.declared.drawings.Drawing.{Drawing}
use Rattle.minus.specs.declared.session.Core.{Core}
use Rattle.minus_state.specs.declared.change.Change.{Change}
use Rattle.minus_state.specs.Changes.{IsChange}
use Rattle.minus_state.specs.Control.{Control}
use Rattle.minus_state.specs.ShownPrompt.{prompt_row}
use Rattle.minus_state.specs.States.{control_of}
use Rattle.minus.specs.Core.{seen_of}
use Rattle.minus_draw.specs.Drawings.{ops_of_step, IsDrawable, drawing_by}

-- the buffer holds the list that a page is drawn by, on the way from one control to another
abbrev pub DrawsBetween : {S P H E Q K : Type 0} → Core S P H E Q K → Drawing → Control → Control → Type 0
DrawsBetween core drawing old new = core.drawing.items ≡ written_all (ops_of_step drawing old new)

-- the control that a session holds
abbrev pub control_in : {S P H E Q K : Type 0} → Core S P H E Q K → Control
control_in core = control_of core.parts.state

-- how a change is drawn over the page of the control that a session holds
abbrev pub drawing_in : {S P H E Q K : Type 0} → Core S P H E Q K → Change → Drawing
drawing_in core change = drawing_by change.redraw (control_in core) change.mark

-- the buffer holds the drawing of a change, whose prompt row is this one, or else the one drawn last
abbrev pub DrawsWithRow : {S P H E Q K : Type 0} → (old : Core S P H E Q K) → Change → Option (List ℕ)
    → (new : Core S P H E Q K) → Type 0
DrawsWithRow old change row new =
    (next : Control) → IsChange (control_in old) change next → IsDrawable (drawing_in old change) (control_in old) next
    → unwrap_or row (prompt_row (control_in old)) ≡ prompt_row next
    → DrawsBetween new (drawing_in old change) (control_in old) next

-- the buffer holds the drawing of a change
abbrev pub DrawsChange : {S P H E Q K : Type 0} → (old : Core S P H E Q K) → Change → (new : Core S P H E Q K) → Type 0
DrawsChange old change new =
    (next : Control) → IsChange (control_in old) change next → IsDrawable (drawing_in old change) (control_in old) next
    → DrawsBetween new (drawing_in old change) (control_in old) next

-- the change was put in its place, and nothing else has changed
abbrev pub PutsChange : {S P H E Q K : Type 0} → (old : Core S P H E Q K) → Change → (new : Core S P H E Q K) → Type 0
PutsChange old change new =
    (next : Control) → IsChange (control_in old) change next → seen_of new ≡ record (seen_of old) { control = next }
