-- A part that fits is one piece; else one more front of the part is a piece, and the last one has the spaces.
use Rattle.std.proofs.Common.{◌<◌, ◌-◌, chars, length, arith, rules, refl, sym, ◌∙◌, ◌≢◌}
use Rattle.std.proofs.lemmas.Bool.{eqb-true, eqb-false}
use Rattle.std.specs.Str.{IsUtf8}
use Rattle.minus_text.proofs.PartsLaws.{part_more, part_end}
use Rattle.minus_text.proofs.MeasuredLaws.{part_fits}
use Rattle.minus_text.proofs.pieces.push_part.Goals as goal

pub returns-then-is_empty : goal.returns-then-is_empty
returns-then-is_empty c =
    let rest = c.loop-more.rest.now in
    let more = c.split_front-width.result.1.now in
    part_end c.args.cols (chars c.args.part.now) rest more c.args.pieces.now.items c.loop-more.pieces.items c.push-then-is_empty.new.self.items c.split_front-width.result.0 (length rest - length more) c.args.spaces (length c.args.part.now)
    c.loop-more.invariant.utf8 (eqb-true (length more) 0 (sym c.is_empty.ensures ∙ c.if-is_empty.true)) c.loop-more.invariant.so_far c.split_front-width.ensures.front c.split_front-width.ensures.none refl c.in_ok-push-2.ensures.items

pub loop-more-preserved : goal.loop-more-preserved
loop-more-preserved c =
    let rest = c.loop-more.rest.now in
    let more = c.split_front-width.result.1.now in
    let text : IsUtf8 more = search rules in
    let other : length more ≢ 0 = eqb-false (length more) 0 (sym c.is_empty.ensures ∙ c.if-is_empty.false) in
    let some : 0 < length more = omega arith in
    let was : 0 < length rest = omega (arith, c.split_front-width.ensures.room) in
    record {
      utf8 = text;
      so_far = part_more c.args.cols (chars c.args.part.now) rest more c.args.pieces.now.items c.loop-more.pieces.items c.push-in-loop-more.new.self.items c.split_front-width.result.0 (length rest - length more) (length c.args.part.now) (length rest) (length more)
          c.loop-more.invariant.utf8 text c.loop-more.invariant.so_far (c.split_front-width.ensures.front was) refl c.in_ok-push-3.ensures.items some;
    }

pub returns-then-width-cols : goal.returns-then-width-cols
returns-then-width-cols c =
    part_fits c.args.cols c.args.spaces c.units_columns-width.result c.args.part.now c.args.pieces.now.items c.push.new.self.items c.utf8.part c.units_columns-width.ensures.value (omega (arith, c.if-width-cols.true)) c.in_ok-push.ensures.items
