use Rattle.std.proofs.Common.{chars, Some, ap, ◌∙◌, false}
use Rattle.std.proofs.lemmas.Str.{chars-nil}
use Rattle.minus_view.specs.Shown.{read}
use Rattle.minus_view.specs.declared.shown.Spot.TheVariants.{Line}
use Rattle.minus_view.proofs.sheet.Sheet.new.Goals as goal

pub invariant_of-result : goal.invariant_of-result
invariant_of-result c = record { shown = ap (λ bs. read (chars bs) (Some (Line false))) c.new.ensures.bytes ∙ ap (λ cs. read cs (Some (Line false))) chars-nil }
