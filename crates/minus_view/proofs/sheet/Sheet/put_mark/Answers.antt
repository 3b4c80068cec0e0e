-- A mark leaves a style as it stands.
use Rattle.std.proofs.Common.{◌∷◌, [], true, false, Some, chars, ap, sym, ◌∙◌}
use Rattle.std.proofs.lemmas.Result.{IfOk-weaker}
use Rattle.minus_view.specs.Shown.{read}
use Rattle.minus_view.specs.declared.shown.Spot.TheVariants.{Line}
use Rattle.minus_view.proofs.ShownLaws.{read_mark, read_styled_mark}
use Rattle.minus_view.proofs.sheet.Sheet.put_mark.Goals as goal

pub returns-then-self-clause-styled : goal.returns-then-self-clause-styled
returns-then-self-clause-styled c =
    let styled = c.if-self.true in
    IfOk-weaker c.put.result _ _ (λ _ p.
    (p true (ap (λ s. read (chars (27 ∷ 91 ∷ 58 ∷ 109 ∷ [])) (Some (Line s))) styled ∙ read_styled_mark)).1 ∙ sym styled) c.put.ensures.put

pub returns-else-self-clause-styled : goal.returns-else-self-clause-styled
returns-else-self-clause-styled c =
    let plain = c.if-self.false in
    IfOk-weaker c.put-else-self.result _ _ (λ _ p.
    (p false (ap (λ s. read (chars (27 ∷ 91 ∷ 109 ∷ [])) (Some (Line s))) plain ∙ read_mark)).1 ∙ sym plain) c.put-else-self.ensures.put

pub returns-else-self-clause-put : goal.returns-else-self-clause-put
returns-else-self-clause-put c =
    IfOk-weaker c.put-else-self.result _ _ (λ _ p plain.
    (p false (ap (λ s. read (chars (27 ∷ 91 ∷ 109 ∷ [])) (Some (Line s))) plain ∙ read_mark)).0) c.put-else-self.ensures.put
