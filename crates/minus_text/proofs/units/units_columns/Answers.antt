-- One more step, and no more.
use Rattle.std.proofs.Common.{◌≡◌, chars, ap, arith, rules, ◌∙◌}
use Rattle.std.specs.List.{sum_by}
use Rattle.minus_text.specs.Units.{units, unit_len, unit_columns}
use Rattle.minus_text.proofs.CutsLaws.{cuts-nil}
use Rattle.minus_text.proofs.units.units_columns.Goals as goal

pub loop-more-preserved : goal.loop-more-preserved
loop-more-preserved c =
    let room = c.in-Some.ensures.room in
    record {
      utf8 = search rules;
      sum = omega (arith, c.in-Some.ensures.columns, c.loop-more.invariant.sum);
      room = omega (arith, room, c.loop-more.invariant.room);
    }

pub returns-clause-value : goal.returns-clause-value
returns-clause-value c =
    let none : sum_by unit_columns (units (chars c.loop-more.rest.now)) ≡ 0 = ap (λ cs. sum_by unit_columns (units cs)) c.in_default.ensures.columns ∙ ap (sum_by unit_columns) (cuts-nil unit_len) in
    let sum = c.loop-more.invariant.sum in
    omega (arith, none, sum)
