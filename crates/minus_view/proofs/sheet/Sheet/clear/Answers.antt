use Rattle.std.proofs.Common.{chars, Some, ap, ◌∙◌, false}
use Rattle.std.proofs.lemmas.Str.{chars-nil}
use Rattle.minus_view.specs.Shown.{read}
use Rattle.minus_view.specs.declared.shown.Spot.TheVariants.{Line}
use Rattle.minus_view.proofs.sheet.Sheet.clear.Goals as goal

pub invariant_of-self : goal.invariant_of-self
invariant_of-self c = record { shown = ap (λ bs. read (chars bs) (Some (Line false))) c.clear.ensures.bytes ∙ ap (λ cs. read cs (Some (Line false))) chars-nil }
