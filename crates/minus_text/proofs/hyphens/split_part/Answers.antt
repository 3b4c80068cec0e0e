-- A hyphen between letters or digits ends the part; what is passed before it is kept.
use Rattle.std.proofs.Common.{arith, rules, sym, ◌∙◌}
use Rattle.minus_text.proofs.WordsLaws.{nothing_passed, before_more, passes_one, part_cut}
use Rattle.minus_text.proofs.hyphens.split_part.Goals as goal

pub loop-c-init : goal.loop-c-init
loop-c-init c = record { utf8 = search rules; scan = nothing_passed c.args.body.now; room = omega arith }

pub front-requires : goal.front-requires
front-requires c = before_more c.args.body.now c.loop-c.rest.now c.in-Some.more.now c.loop-c.before c.in-Some.c c.loop-c.invariant.scan c.in-Some.ensures.bytes

pub returns-then-is_joint-clause-part : goal.returns-then-is_joint-clause-part
returns-then-is_joint-clause-part c =
    part_cut c.args.body.now c.loop-c.rest.now c.in-Some.more.now c.front.result.now c.loop-c.before c.in-Some.c c.loop-c.invariant.scan c.in-Some.ensures.chars (sym c.is_joint.ensures ∙ c.if-is_joint.true) c.front.utf8 c.front.ensures

pub loop-c-preserved : goal.loop-c-preserved
loop-c-preserved c =
    let room = c.in-Some.ensures.room in
    record {
      utf8 = search rules;
      scan = rw c.is_ascii_alphanumeric-before.ensures.value (passes_one c.args.body.now c.loop-c.rest.now c.in-Some.more.now c.loop-c.before c.in-Some.c c.loop-c.invariant.scan c.in-Some.ensures.chars c.in-Some.ensures.bytes (sym c.is_joint.ensures ∙ c.if-is_joint.false));
      room = omega (arith, room, c.loop-c.invariant.room);
    }
