-- The columns of one more character.
use Rattle.std.proofs.Common.{chars, ap, arith, rules, ◌∙◌}
use Rattle.std.specs.List.{sum_by}
use Rattle.std.proofs.lemmas.List.Sums.{sum_by-cons}
use Rattle.minus_text.specs.Units.{char_columns}
use Rattle.minus_text.proofs.units.chars_columns.Goals as goal

pub loop-c-preserved : goal.loop-c-preserved
loop-c-preserved c =
    let more = ap (sum_by char_columns) c.in-Some.ensures.chars ∙ sum_by-cons char_columns c.in-Some.c (chars c.in-Some.after.now) in
    record {
      utf8 = search rules;
      sum = omega (arith, c.loop-c.invariant.sum, more, c.char_columns-width.ensures.value);
      room = omega (arith, c.loop-c.invariant.room, c.in-Some.ensures.room, c.char_columns-width.ensures.few);
    }
