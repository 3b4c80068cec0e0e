-- The first space, or the end.
use Rattle.std.proofs.Common.{rules, get_or, arith, sym, ap, ◌∙◌, inl, inr}
use Rattle.minus_text.proofs.StretchesLaws.{body_at}
use Rattle.minus_text.proofs.pieces.past_body.Goals.{then-loop-at-test+else-bytes-at-ne32, else-loop-at-test}
use Rattle.minus_text.proofs.pieces.past_body.Goals as goal

pub returns-clause-chars : goal.returns-clause-chars
returns-clause-chars c =
    body_at c.args.text.now c.range_from.result.now c.loop-at.at c.utf8.text c.loop-at.invariant.within c.loop-at.invariant.none c.range_from.ensures.value
    (elim c.loop-at-test.branch [
      | then-loop-at-test+else-bytes-at-ne32 w ↦ inr (omega (arith, w.loop-at-test), ap (λ xs. get_or xs c.loop-at.at 0) (sym c.as_bytes-bytes.ensures.value) ∙ w.if-bytes-at-ne32.false)
      | else-loop-at-test w ↦ inl (omega (arith, w.loop-at-test))
    ])

pub loop-at-preserved : goal.loop-at-preserved
loop-at-preserved c = search rules
