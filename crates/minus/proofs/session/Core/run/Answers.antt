-- Turned twice, the inputs are as they were.
use Rattle.std.proofs.Common.{reverse, sym, ap, ◌∙◌}
use Rattle.std.proofs.lemmas.List.{reverse-reverse}
use Rattle.minus.proofs.session.Core.run.Goals as goal

pub returns : goal.returns
returns g c =
    let turned = ap reverse c.reverse.ensures.items ∙ reverse-reverse c.args.inputs.items in
    rw (sym turned, c.reverse-2.ensures.items) c.run_from_end-progress.ensures
