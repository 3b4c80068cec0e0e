use Rattle.std.proofs.Common.{subst}
use Rattle.minus_input.proofs.classifier.ClassifierInputClassifier.classify_input.Goals as goal

pub returns-in-Boxed : goal.returns-in-Boxed
returns-in-Boxed g c =
    rw c.in-Boxed.is
    (subst (λ p. (g.dyn-1.0.entry p.0).1.says.allows p.1 c.args.event c.args.state.now c.classify_input-in-Boxed.result) c.deref_box-1.ensures.1 c.classify_input-in-Boxed.ensures)
