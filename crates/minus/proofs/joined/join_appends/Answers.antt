-- The text of one more append is joined.
use Rattle.std.proofs.Common.{◌≡◌, ◌∷◌, length, map, string_bytes, rules, arith, ap}
use Rattle.minus_commands.specs.Reads.{wanted_of}
use Rattle.minus_commands.specs.Table.{appends_data}
use Rattle.minus.proofs.JoinedLaws.{one_more}
use Rattle.minus.proofs.joined.join_appends.Goals as goal

pub loop-command-preserved : goal.loop-command-preserved
loop-command-preserved g c =
    let split : c.loop-command.rest.now ≡ c.in-Some.command.now ∷ c.in-Some.behind.now = search rules in
    let less = c.loop-command.invariant.less in
    record {
      joined = one_more appends_data c.args.first.now (string_bytes c.loop-command.text) (string_bytes c.push_str.new.self) c.in-Some-appended.next.now (map wanted_of c.args.commands.now) (map wanted_of c.loop-command.rest.now) (map wanted_of c.in-Some.behind.now) (wanted_of c.in-Some.command.now)
          c.loop-command.invariant.joined c.in-Some-appended.ensures (ap (map wanted_of) split) c.in_ok-push_str.ensures.bytes;
      less = omega (arith, ap length split, less);
    }
