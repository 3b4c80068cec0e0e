-- What is added to the bytes of a drawing, for each control that a change leads to.
use Rattle.std.specs.Prelude.{◌≡◌, ℕ, List, ◌++◌, Option}
use Rattle.regex.specs.Patterns.{Re}
use Rattle.minus_term.specs.Operations.{Op}
use Rattle.minus_term.specs.Written.{written_all}
use Rattle.minus_draw.specs.declared.drawings.Drawing.{Drawing}
use Rattle.minus_draw.specs.declared.drawings.Drawing.TheVariants.{Page}
use Rattle.minus_draw.specs.declared.drawings.WholePage.{WholePage}
use Rattle.minus_state.specs.declared.change.Change.{Change}
use Rattle.minus_state.specs.declared.state.PagerState.{PagerState}
use Rattle.minus_state.specs.Changes.{IsChange}
use Rattle.minus_state.specs.Control.{Control}
use Rattle.minus_state.specs.ShownPrompt.{prompt_row}
use Rattle.minus_state.specs.States.{control_of, IsFormed}
use Rattle.minus_draw.specs.Drawings.{ops_of, ops_of_step, page_by, page_ops, EditsAlone, IsDrawable}

-- the bytes of these operations are added
abbrev pub AddsOps : (old : Control) → Change → (Control → List Op) → (before after : List ℕ) → Type 0
AddsOps old change ops before after =
    (new : Control) → IsChange old change new → after ≡ before ++ written_all (ops new)

-- they are added where the search prompt alone has changed
abbrev pub AddsSearchOps : (old : Control) → Change → (Control → List Op) → (before after : List ℕ) → Type 0
AddsSearchOps old change ops before after =
    (new : Control) → IsChange old change new → new ≡ record old { search = new.search }
    → after ≡ before ++ written_all (ops new)

-- the page is added there, with the rows that a pattern leads to, if there is one, and this last row
abbrev pub AddsPage : (old : Control) → Change → Option Re → (last before after : List ℕ) → Type 0
AddsPage old change pattern last before after = AddsSearchOps old change (λ new. page_by new pattern last) before after

-- the bytes of these operations are added, where the state is formed
abbrev pub AddsFormed : PagerState → List Op → (before after : List ℕ) → Type 0
AddsFormed s ops before after = IsFormed s → after ≡ before ++ written_all ops

-- the page is added as `AddsPage` says, where the state is formed
abbrev pub AddsFormedPage : PagerState → Change → Option Re → (last before after : List ℕ) → Type 0
AddsFormedPage s change pattern last before after =
    IsFormed s → AddsPage (control_of s) change pattern last before after

-- they are added where the query was edited
abbrev pub AddsEditOps : (old : Control) → Change → (Control → List Op) → (before after : List ℕ) → Type 0
AddsEditOps old change ops before after =
    (new : Control) → IsChange old change new → EditsAlone old new → after ≡ before ++ written_all (ops new)

-- they are added where the change can be drawn so and has this prompt row
abbrev pub AddsDrawing : (old : Control) → Change → Drawing → (prompt : List ℕ) → (Control → List Op)
    → (before after : List ℕ) → Type 0
AddsDrawing old change drawing prompt ops before after =
    (new : Control) → IsChange old change new → IsDrawable drawing old new → prompt ≡ prompt_row new
    → after ≡ before ++ written_all (ops new)

-- those of a whole page are added there, where the state is formed
abbrev pub AddsWholePage : PagerState → Change → WholePage → (prompt before after : List ℕ) → Type 0
AddsWholePage old change page prompt before after =
    IsFormed old → AddsDrawing (control_of old) change (Page page) prompt (page_ops page) before after

-- the operations of a step are added there
abbrev pub AddsStep : (old : Control) → Change → Drawing → (prompt before after : List ℕ) → Type 0
AddsStep old change drawing prompt before after =
    AddsDrawing old change drawing prompt (λ new. ops_of_step drawing old new) before after

-- these bytes are the drawing, where the change can be drawn so
abbrev pub IsDrawnBy : (old : Control) → Change → Drawing → (bytes : List ℕ) → Type 0
IsDrawnBy old change drawing bytes =
    (new : Control) → IsChange old change new → IsDrawable drawing old new → bytes ≡ written_all (ops_of drawing new)
