-- One of the keys that were kept is still bound to the end.
use Rattle.std.proofs.Common.{sym, ◌∙◌}
use Rattle.minus_app.proofs.KeptLaws.{some_passes}
use Rattle.minus_app.proofs.keys.AppKeys.into_parts.Goals as goal

pub returns-clause-ends : goal.returns-clause-ends
returns-clause-ends g c = some_passes _ _ (sym c.some_end.ensures ∙ c.if-not-some_end.false)
