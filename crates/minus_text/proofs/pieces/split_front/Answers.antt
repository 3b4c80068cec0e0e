-- One more unit fits, or the front is full.
use Rattle.std.proofs.Common.{◌≡◌, ◌+◌, ◌≤◌, chars, length, arith, rules, inl, inr, ap, ◌∙◌, nat_lt}
use Rattle.minus_text.specs.Fronts.{front_rule}
use Rattle.minus_text.proofs.FrontsLaws.{one_more, whole_front, as_number}
use Rattle.minus_text.proofs.CutsLaws.{cuts-nil}
use Rattle.minus_text.specs.Units.{unit_len}
use Rattle.minus_text.proofs.pieces.split_front.Goals as goal

pub loop-more-preserved : goal.loop-more-preserved
loop-more-preserved c =
    let inv = c.loop-more.invariant in
    let less = c.in-Some.ensures.less in
    let room = c.in-Some.ensures.room in
    let unit = c.in-Some.ensures.unit in
    let fits : (c.loop-more.width + c.in-Some.more ≤ c.args.cols → ⊥) → c.loop-more.wide + c.from.result ≤ 1 =
    λ over. elim c.else-width-more.either [ inl w ↦ w.1 | inr w ↦ absurd (over w) ] in
    record {
      utf8 = search rules;
      so_far = one_more c.args.cols (chars c.args.part.now) (chars c.loop-more.rest.now) (chars c.in-Some.after.now) c.loop-more.width c.loop-more.wide c.in-Some.more (c.loop-more.wide + c.from.result) (length c.args.part.now) (length c.loop-more.rest.now) (length c.in-Some.after.now)
          inv.so_far unit (ap (λ n. c.loop-more.wide + n) (c.from.ensures ∙ as_number (nat_lt 0 c.in-Some.more))) less inv.within ((front_rule c.args.cols).one unit.unit) fits;
      room = omega (arith, room, inv.room);
      within = omega (arith, less, inv.within);
      few = search rules;
    }

pub returns-clause-front : goal.returns-clause-front
returns-clause-front c = λ some.
    let inv = c.loop-more.invariant in
    let none : length c.loop-more.rest.now ≡ 0 = c.in_default.ensures.none in
    whole_front c.args.cols (chars c.args.part.now) (chars c.loop-more.rest.now) c.loop-more.width c.loop-more.wide (length c.args.part.now) (length c.loop-more.rest.now) inv.so_far c.in_default.ensures.unit (rw c.in_default.ensures.unit (cuts-nil unit_len)) (omega arith)
