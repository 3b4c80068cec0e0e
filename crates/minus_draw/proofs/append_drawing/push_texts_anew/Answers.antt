-- No text yet, and one more text.
use Rattle.minus_term.proofs.WrittenLaws.{no_op}
use Rattle.minus_draw.proofs.DrawingLaws.{anew_next}
use Rattle.std.proofs.Common.{◌+◌, ◌++◌, [], ◌∷◌, ap, ◌∙◌}
use Rattle.minus_term.specs.Operations.{GoTo, ClearRow, Put}
use Rattle.minus_term.specs.Written.{written_all}
use Rattle.minus_state.specs.declared.showing.ShownRow.{ShownRow}
use Rattle.minus_state.specs.Showing.{row_text}
use Rattle.minus_draw.proofs.append_drawing.push_texts_anew.Goals as goal

pub loop-i-init : goal.loop-i-init
loop-i-init c = no_op c.args.out.now.items

pub loop-i-preserved : goal.loop-i-preserved
loop-i-preserved c = anew_next row_text c.args.texts.now c.args.first c.loop-i.i _ c.args.out.now.items c.loop-i.out.items c.push_row_anew.new.out.items c.loop-i-test.true c.loop-i.invariant
    (c.in_ok-push_row_anew.ensures ∙ ap (λ (r : ShownRow). c.loop-i.out.items ++ written_all (GoTo 0 (c.args.first + c.loop-i.i) ∷ ClearRow ∷ Put (row_text r) ∷ [])) c.index-texts-i.is)
