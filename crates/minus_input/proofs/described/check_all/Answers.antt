use Rattle.std.proofs.Common.{◌++◌, ◌∷◌, []}
use Rattle.minus_input.proofs.DescribedLaws.{describe_step}
use Rattle.minus_input.proofs.described.check_all.Goals as goal

pub loop-place-preserved : goal.loop-place-preserved
loop-place-preserved g c = (
  c.loop-place.invariant.0 ++ c.in_default.field-0 ∷ [],
  describe_step g.D.Described.describes c.args.texts.now c.loop-place.place _ c.loop-place-test.true c.loop-place.invariant.0 c.in_default.field-0 c.loop-place.invariant.1 c.in_default.ensures.ok,
)
