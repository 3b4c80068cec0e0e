use Rattle.std.proofs.Common.{rules, ◌-◌}
use Rattle.std.proofs.Math.Nat.{add-mod-mod}
use Rattle.minus_text.proofs.search.matches.next_nth_match.Goals as goal

-- src/search/matches.rt:26:1
pub returns : goal.returns
returns c =
    let wraps = add-mod-mod c.nearest-first.result (c.args.jump - 1) c.len-count.result in
    search rules
