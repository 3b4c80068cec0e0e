-- What is reported of those that are left.
use Rattle.std.proofs.Common.{map, sym, ap, ◌∙◌}
use Rattle.std.proofs.lemmas.List.{drop-map}
use Rattle.minus.specs.Core.{seen_of}
use Rattle.minus_commands.specs.Reads.{told_of}
use Rattle.minus.specs.Waiting.{leaving}
use Rattle.minus.proofs.session.Core.let_go.Goals as goal

pub returns-clause-seen : goal.returns-clause-seen
returns-clause-seen g c =
    let items = c.args.self.now.waiting.items in
    let left = ap (map told_of) c.let_first_go.ensures.items ∙ sym (drop-map told_of c.args.count items) in
    ap (leaving (seen_of c.args.self.now)) left
