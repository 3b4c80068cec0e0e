-- One more space is gone, and no more.
use Rattle.std.proofs.Common.{◌≡◌, ◌++◌, ◌∷◌, [], length, ap, arith, rules, lit<}
use Rattle.std.proofs.lemmas.List.{length-append}
use Rattle.std.proofs.lemmas.Str.Pattern.{strip_suffix_char}
use Rattle.minus_text.proofs.ColumnsLaws.{less_space, body_found, spaces_count}
use Rattle.minus_text.proofs.units.without_spaces.Goals as goal

pub loop-front-preserved : goal.loop-front-preserved
loop-front-preserved c =
    let said = strip_suffix_char 32 c.loop-front.body.now c.strip_suffix.result c.strip_suffix.ensures.cases (lit< tt) in
    let split : c.loop-front.body.now ≡ c.in-Some.front.now ++ 32 ∷ [] = rw c.in-Some.is at said in
    record {
      utf8 = search rules;
      so_far = less_space c.args.text.now c.loop-front.body.now c.in-Some.front.now c.loop-front.invariant.so_far split;
      room = omega (arith, ap length split, length-append c.in-Some.front.now (32 ∷ []), c.loop-front.invariant.room);
    }

pub returns-clause-body : goal.returns-clause-body
returns-clause-body c =
    let said = strip_suffix_char 32 c.loop-front.body.now c.strip_suffix.result c.strip_suffix.ensures.cases (lit< tt) in
    body_found c.args.text.now c.loop-front.body.now c.loop-front.invariant.utf8 c.loop-front.invariant.so_far (rw c.in_default.is at said)

pub returns-clause-spaces : goal.returns-clause-spaces
returns-clause-spaces c = spaces_count c.args.text.now c.loop-front.body.now c.loop-front.invariant.utf8 c.loop-front.invariant.so_far
