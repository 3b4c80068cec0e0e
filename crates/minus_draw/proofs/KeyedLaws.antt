-- What a key of an open search prompt leaves.
use Rattle.std.proofs.Common.{◌≡◌, ◌==◌, inl, inr, ℕ, Bool, true, false, Option, None, Some, refl, sym, ap, ◌∙◌, arith}
use Rattle.std.proofs.lemmas.Bool.{cases_Bool}
use Rattle.regex.specs.Patterns.{Re}
use Rattle.minus_state.specs.declared.change.Redraw.TheVariants.{Moved as Moves}
use Rattle.minus_state.specs.declared.search.query.Fed.{Fed}
use Rattle.minus_state.specs.declared.search.query.Fed.TheVariants.{Unchanged, Moved, Edited, Confirmed, Cancelled}
use Rattle.minus_state.specs.Control.{Control}
use Rattle.minus_state.specs.ClampedMark.{IsClamped}
use Rattle.minus_state.specs.PromptKeys.{left_by, redraw_by}
use Rattle.minus_state.specs.Confirming.{entered}
use Rattle.minus_state.specs.OpenPrompts.{Prompt}
use Rattle.minus_state.specs.OpenSearches.{OpenSearch}
use Rattle.minus_draw.specs.declared.drawings.Drawing.{Drawing}
use Rattle.minus_draw.specs.declared.drawings.Drawing.TheVariants.{Nothing, Page, Scroll, Append, LastRow}
use Rattle.minus_draw.specs.declared.drawings.WholePage.TheVariants.{Plain, Typed, Closing}
use Rattle.minus_draw.specs.Drawings.{IsDrawable, drawing_by}

-- the size stays
pub entered_rows : (c : Control) (was_edited : Bool) (found : Option Re) → (entered c was_edited found).rows ≡ c.rows
entered_rows c false found = refl
entered_rows c true None = refl
entered_rows c true (Some query) = refl

pub keyed_rows : (told : Fed) (c : Control) (was_edited : Bool) (p : Prompt) (found : Option Re) → (left_by told c was_edited p found).rows ≡ c.rows
keyed_rows Unchanged c was_edited p found = refl
keyed_rows Moved c was_edited p found = refl
keyed_rows Edited c was_edited p found = refl
keyed_rows Confirmed c was_edited p found = entered_rows c was_edited found
keyed_rows Cancelled c was_edited p found = refl

-- no search prompt is open any more
pub entered_closed : (c : Control) (was_edited : Bool) (found : Option Re) → (entered c was_edited found).search ≡ None
entered_closed c was_edited found = refl

-- the clamp leaves the mark
entered_clamped : (c : Control) (was_edited : Bool) (found : Option Re) → IsClamped c → IsClamped (entered c was_edited found)
entered_clamped c false found h = h
entered_clamped c true None h = h
entered_clamped c true (Some query) h = omega arith

pub keyed_clamped : (told : Fed) (c : Control) (was_edited : Bool) (p : Prompt) (found : Option Re) → IsClamped c → IsClamped (left_by told c was_edited p found)
keyed_clamped Unchanged c was_edited p found h = h
keyed_clamped Moved c was_edited p found h = h
keyed_clamped Edited c was_edited p found h = h
keyed_clamped Confirmed c was_edited p found h = entered_clamped c was_edited found h
keyed_clamped Cancelled c was_edited p found h = h

-- an edit changes the search prompt alone
pub key_drawable : (told : Fed) (c : Control) (was_edited : Bool) (p : Prompt) (found : Option Re) (mark : ℕ) → IsDrawable (drawing_by (redraw_by told) c mark) c (left_by told c was_edited p found)
key_drawable Unchanged c was_edited p found mark = tt
key_drawable Moved c was_edited p found mark = tt
key_drawable Edited c was_edited p found mark = λ o is. ap (λ (s : Option OpenSearch). let x : Control = record c { search = s } in x) is
key_drawable Confirmed c was_edited p found mark = tt
key_drawable Cancelled c was_edited p found mark = tt

-- with no search prompt open there is none to draw
pub drawable_closed : (drawing : Drawing) (old new : Control) → new.search ≡ None → IsDrawable drawing old new
drawable_closed Nothing old new e = tt
drawable_closed (Page Plain) old new e = tt
drawable_closed (Page Typed) old new e = λ o is. absurd (let both : None ≡ Some o = sym e ∙ is in cc)
drawable_closed (Page Closing) old new e = tt
drawable_closed (Scroll from to) old new e = tt
drawable_closed (Append first old_count) old new e = tt
drawable_closed (LastRow row) old new e = tt

-- a move draws no search prompt
pub moved_drawable : (old new : Control) (mark : ℕ) → IsDrawable (drawing_by Moves old mark) old new
moved_drawable old new mark = elim (cases_Bool (mark == old.mark)) [
  | inl e ↦ rw e tt
  | inr e ↦ rw e tt
]
