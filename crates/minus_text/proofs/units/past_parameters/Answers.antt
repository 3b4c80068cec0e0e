-- The first byte that ends a sequence, or the end.
use Rattle.std.proofs.Common.{◌≡◌, true, rules, get_or, arith, inl, inr}
use Rattle.minus_text.specs.Units.{is_final}
use Rattle.minus_text.proofs.StretchesLaws.{parameters_at}
use Rattle.minus_text.proofs.units.past_parameters.Goals.{then-loop-at-test+else-not-matches, else-loop-at-test}
use Rattle.minus_text.proofs.units.past_parameters.Goals as goal

pub returns-clause-chars : goal.returns-clause-chars
returns-clause-chars c =
    parameters_at c.args.text.now c.range_from.result.now c.loop-at.at c.utf8.text c.loop-at.invariant.within c.loop-at.invariant.none c.range_from.ensures.value
    (elim c.loop-at-test.branch [
      | then-loop-at-test+else-not-matches w ↦
          let final : is_final (get_or c.args.text.now c.loop-at.at 0) ≡ true = search rules in
          inr (omega (arith, w.loop-at-test), final)
      | else-loop-at-test w ↦ inl (omega (arith, w.loop-at-test))
    ])
