-- The page is drawn on the new sink, or broken off there.
use Rattle.std.proofs.Common.{refl, ap, ◌∙◌}
use Rattle.minus.specs.Core.{seen_of}
use Rattle.minus.specs.Seen.{Seen}
use Rattle.minus.specs.declared.status.Status.TheVariants as status
use Rattle.minus.proofs.StartLaws.{redrawn, redraw_broken}
use Rattle.minus.proofs.UnformedLaws.{unexchanged_unformed}
use Rattle.minus.proofs.session.Core.set_output_sink.Goals as goal

pub returns-clause-exchanged : goal.returns-clause-exchanged
returns-clause-exchanged g c =
    let can = c.in_default.ensures.can in
    let resized = c.in_default-resize.ensures in
    let written = c.in_default-write_drawing.ensures in
    let closed = ap (λ (s : Seen _ _). s.control.search) resized.seen ∙ can.closed in
    let seen = ap seen_of written.rest in
    let drawn = redrawn _ _ _ (seen_of c.resize.new.self).control closed c.resize.new.self.parts.state.sized.some_rows resized.drawn written.ok in
    record {
      can = can;
      size = resized.size;
      seen = seen ∙ resized.seen;
      back = c.replace-old.ensures.value ∙ resized.sink;
      drawn = rw (ap (λ (s : Seen _ _). s.control) seen, ← c.replace-old.ensures.after) drawn;
      stays = rw (← c.replace-old.ensures.after) written.stays;
    }

pub returns-in-Err-write_drawing-clause-refused : goal.returns-in-Err-write_drawing-clause-refused
returns-in-Err-write_drawing-clause-refused g c =
    let can = c.in_default.ensures.can in
    let resized = c.in_default-resize.ensures in
    let broken = c.in-Err-write_drawing.ensures in
    let closed = ap (λ (s : Seen _ _). s.control.search) resized.seen ∙ can.closed in
    let begun = redraw_broken _ _ _ (seen_of c.resize.new.self).control closed c.resize.new.self.parts.state.sized.some_rows resized.drawn broken.front in
    rw broken.cause (record {
      can = can;
      size = resized.size;
      seen = broken.fails ∙ ap (λ (s : Seen _ _). let r : Seen _ _ = record s { status = status.Failed } in r) resized.seen;
      back = c.replace-old.ensures.value ∙ resized.sink;
      broken = rw (ap (λ (s : Seen _ _). s.control) broken.fails, ← c.replace-old.ensures.after) begun;
      rises = rw (← c.replace-old.ensures.after) broken.rises;
    })

pub returns-in-Err-resize-clause-refused : goal.returns-in-Err-resize-clause-refused
returns-in-Err-resize-clause-refused g c =
    let refused = c.in-Err-resize.ensures in
    unexchanged_unformed _ _ _ _ c.args.cols c.args.rows c.resize.new.self refused.refused c.in_default.ensures.can (record { seen = refused.err; sink = refused.sink; back = refl })
