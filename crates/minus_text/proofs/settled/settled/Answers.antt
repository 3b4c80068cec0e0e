-- One more unit is settled, and no more.
use Rattle.std.proofs.Common.{arith, refl, rules}
use Rattle.std.specs.Str.{IsUtf8}
use Rattle.minus_text.proofs.BorderLaws.{settled_more, settled_border}
use Rattle.minus_text.proofs.settled.settled.Goals as goal

pub loop-more-preserved : goal.loop-more-preserved
loop-more-preserved c =
    let u : IsUtf8 c.in-Some.after.now = search rules in
    record {
      utf8 = u;
      so_far = settled_more c.args.text.now c.loop-more.rest.now c.in-Some.after.now c.loop-more.width c.in-Some.more c.utf8.text c.loop-more.invariant.utf8 u c.loop-more.invariant.so_far c.in-Some.ensures.unit;
      room = omega (arith, c.in-Some.ensures.room, c.loop-more.invariant.room);
    }

pub returns : goal.returns
returns c = settled_border c.args.text.now c.loop-more.rest.now c.loop-more.width _ c.loop-more.invariant.utf8 c.loop-more.invariant.so_far refl
