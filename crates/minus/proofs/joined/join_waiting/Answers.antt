-- The text of one more append is joined.
use Rattle.std.proofs.Common.{◌≡◌, ◌∷◌, length, map, string_bytes, rules, arith, ap}
use Rattle.minus.specs.Joined.{append_told}
use Rattle.minus_commands.specs.Reads.{told_of}
use Rattle.minus.proofs.JoinedLaws.{one_more}
use Rattle.minus.proofs.joined.join_waiting.Goals as goal

pub loop-input-preserved : goal.loop-input-preserved
loop-input-preserved g c =
    let split : c.loop-input.rest.now ≡ c.in-Some.input.now ∷ c.in-Some.behind.now = search rules in
    let less = c.loop-input.invariant.less in
    record {
      joined = one_more append_told c.args.first.now (string_bytes c.loop-input.text) (string_bytes c.push_str.new.self) c.in-Some-appended_by.next.now (map told_of c.args.inputs.now) (map told_of c.loop-input.rest.now) (map told_of c.in-Some.behind.now) (told_of c.in-Some.input.now)
          c.loop-input.invariant.joined c.in-Some-appended_by.ensures (ap (map told_of) split) c.in_ok-push_str.ensures.bytes;
      less = omega (arith, ap length split, less);
    }
