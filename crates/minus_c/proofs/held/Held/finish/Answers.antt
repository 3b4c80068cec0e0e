-- The cleanup that was refused is told.
use Rattle.std.proofs.Common.{subst}
use Rattle.std.specs.Prelude.{IfErr}
use Rattle.minus_c.proofs.HeldLaws.{refused_told}
use Rattle.minus_c.proofs.StageLaws.{unfinished_still}
use Rattle.minus_c.specs.Stages.{FinishesUnclean}
use Rattle.minus_c.specs.declared.stage.Stage.{Stage}
use Rattle.minus_c.proofs.held.Held.finish.Goals as goal

pub returns-clause-refused : goal.returns-clause-refused
returns-clause-refused c =
    let step = c.finished-stage in
    refused_told FinishesUnclean unfinished_still c.args.self.now c.told.new.self step.result.0 c.told.result step.result.1 c.told.ensures.same c.told.ensures.kept c.told.ensures.done c.told.ensures.refused
    (subst (λ (s : Stage). IfErr step.result.1 (λ e. FinishesUnclean e s step.result.0)) c.replace-stage.ensures.value step.ensures.refused)
