-- The rows that the moved mark brings onto the page.
use Rattle.std.proofs.Common.{sym, ap, subst, ◌∙◌}
use Rattle.minus_term.specs.Written.{written_all}
use Rattle.minus_state.specs.Control.{Control}
use Rattle.minus_state.specs.ClampedMark.{moved_to}
use Rattle.minus_state.specs.States.{control_of}
use Rattle.minus_state.specs.declared.change.Redraw.TheVariants.{Moved}
use Rattle.minus_draw.specs.Drawings.{ops_of, IsDrawable, drawing_by}
use Rattle.minus_draw.specs.declared.drawings.Drawing.{Drawing}
use Rattle.minus_draw.proofs.KeyedLaws.{moved_drawable}
use Rattle.minus_draw.proofs.sink_calls.drawn_scroll.Goals as goal

pub returns-clause-bytes : goal.returns-clause-bytes
returns-clause-bytes c f =
    let old : Control = control_of c.args.state.now in
    let is = c.moved_to-change.ensures in
    let drawing = c.of-drawing.ensures f ∙ ap (λ r. drawing_by r old c.moved_to-change.result.mark) is.redraw ∙ ap (λ m. drawing_by Moved old m) (is.next f).mark_is in
    let new : Control = moved_to old c.args.mark in
    let can = subst (λ (d : Drawing). IsDrawable d old new) (sym drawing) (moved_drawable old new new.mark) in
    c.in_ok-bytes.ensures.bytes f _ (is.next f) can ∙ ap (λ d. written_all (ops_of d (moved_to old c.args.mark))) drawing
