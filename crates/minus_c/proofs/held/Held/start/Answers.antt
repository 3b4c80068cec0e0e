-- What the stage's start leaves is told.
use Rattle.std.proofs.Common.{subst}
use Rattle.std.specs.Prelude.{OnOk, IfErr}
use Rattle.minus_c.proofs.HeldLaws.{done_told, refused_told}
use Rattle.minus_c.proofs.StageLaws.{starts_still, unbegun_still}
use Rattle.minus_c.specs.Sessions.{StartsAs, RefusesStart}
use Rattle.minus_c.specs.Stages.{Starts, RefusesBegin}
use Rattle.minus_c.specs.declared.stage.Stage.{Stage}
use Rattle.minus_c.proofs.held.Held.start.Goals as goal

pub returns-clause-started : goal.returns-clause-started
returns-clause-started c =
    let so : Stage → Stage → Type 0 = Starts (StartsAs c.args.mode c.args.cols c.args.rows) in let step = c.started-stage in
    done_told so (starts_still c.args.mode c.args.cols c.args.rows) c.args.self.now c.told.new.self step.result.0 c.told.result step.result.1 c.told.ensures.same c.told.ensures.kept c.told.ensures.done
    c.told.ensures.refused (subst (λ (s : Stage). OnOk step.result.1 (so s step.result.0)) c.replace-stage.ensures.value step.ensures.started)

pub returns-clause-refused : goal.returns-clause-refused
returns-clause-refused c =
    let step = c.started-stage in
    refused_told (RefusesBegin (RefusesStart c.args.mode c.args.cols c.args.rows)) (unbegun_still _) c.args.self.now c.told.new.self step.result.0 c.told.result step.result.1 c.told.ensures.same c.told.ensures.kept
    c.told.ensures.done c.told.ensures.refused
    (subst (λ (s : Stage). IfErr step.result.1 (λ e. RefusesBegin (RefusesStart c.args.mode c.args.cols c.args.rows) e s step.result.0)) c.replace-stage.ensures.value step.ensures.refused)
