use Rattle.std.proofs.Common.{IfOk, option_map, string_bytes, subst}
use Rattle.minus_input.proofs.classifier.ClassifierInputClassifier.format_help.Goals as goal

pub returns-in-Boxed : goal.returns-in-Boxed
returns-in-Boxed g c =
    rw c.in-Boxed.is
    (subst (λ p. IfOk c.format_help-in-Boxed.result (λ text. (g.dyn-1.0.entry p.0).1.says.helps p.1 (option_map string_bytes text))) c.deref_box-1.ensures.1 c.format_help-in-Boxed.ensures)
