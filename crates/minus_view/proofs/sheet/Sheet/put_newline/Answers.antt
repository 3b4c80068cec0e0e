use Rattle.std.proofs.Common.{◌∷◌, [], Some, chars, ap, ◌∙◌, false}
use Rattle.std.proofs.lemmas.Result.{IfOk-weaker}
use Rattle.minus_view.specs.Shown.{read}
use Rattle.minus_view.specs.declared.shown.Spot.TheVariants.{Line}
use Rattle.minus_view.proofs.ShownLaws.{read_newline}
use Rattle.minus_view.proofs.sheet.Sheet.put_newline.Goals as goal

pub returns : goal.returns
returns c = record { styled = IfOk-weaker c.put.result _ _ (λ _ p. (p false (ap (λ s. read (chars (10 ∷ [])) (Some (Line s))) c.in_ok-close.ensures.styled ∙ read_newline)).1) c.put.ensures.put }
