use Rattle.std.proofs.Common.{map, take, sym, subst, ◌∙◌, ◌+◌}
use Rattle.minus_input.specs.Described.{Describe}
use Rattle.minus_input.proofs.RegisterLaws.{pushed}
use Rattle.minus_input.proofs.DescribedLaws.{describe_step}
use Rattle.minus_input.proofs.described.read_all.Goals as goal

pub loop-place-preserved : goal.loop-place-preserved
loop-place-preserved g c =
    subst (λ l. Describe g.D.Described.describes (take (c.loop-place.place + 1) (map (λ t. t.now) c.args.texts.now)) l)
    (sym (pushed c.push.result _ _ _ (sym c.is_err.ensures.value ∙ c.if-is_err.false) c.push.ensures.items))
    (describe_step g.D.Described.describes c.args.texts.now c.loop-place.place _ c.loop-place-test.true c.loop-place.keys.items c.in-Ok.key c.loop-place.invariant c.in-Ok.ensures.ok)
