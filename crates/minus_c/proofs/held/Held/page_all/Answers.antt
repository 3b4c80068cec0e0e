-- What the stage leaves of its text is told, with whether it was written.
use Rattle.std.proofs.Common.{subst, ◌∙◌}
use Rattle.std.specs.Prelude.{OnOk, IfErr}
use Rattle.minus_c.proofs.HeldLaws.{done_told, refused_told, over_told, written_still}
use Rattle.minus_c.proofs.StageLaws.{pages_still, unbegun_still}
use Rattle.minus_c.specs.Sessions.{PagesAs, RefusesPaging}
use Rattle.minus_c.specs.Stages.{Pages, RefusesBegin, is_written}
use Rattle.minus_c.specs.declared.stage.Stage.{Stage}
use Rattle.minus_c.proofs.held.Held.page_all.Goals as goal

pub returns-then-told-gt0-clause-refused : goal.returns-then-told-gt0-clause-refused
returns-then-told-gt0-clause-refused c =
    let step = c.paged-stage in let told = c.told-told in
    refused_told (RefusesBegin (RefusesPaging c.args.is_tty c.args.cols c.args.rows)) (unbegun_still _) c.args.self.now told.new.self step.result.0 told.result step.result.1 told.ensures.same told.ensures.kept told.ensures.done
    told.ensures.refused (subst (λ (s : Stage). IfErr step.result.1 (λ e. RefusesBegin (RefusesPaging c.args.is_tty c.args.cols c.args.rows) e s step.result.0)) c.replace-stage.ensures.value step.ensures.refused)

pub returns-clause-paged : goal.returns-clause-paged
returns-clause-paged c = λ none.
    let so : Stage → Stage → Type 0 = Pages (PagesAs c.args.is_tty c.args.cols c.args.rows) in let step = c.paged-stage in let told = c.told-told in
    over_told so c.args.self.now told.new.self told.result (is_written told.new.self.stage) c.is_written-is_written.result (c.is_written-is_written.ensures ∙ written_still _ _ told.ensures.same)
    (done_told so (pages_still c.args.is_tty c.args.cols c.args.rows) c.args.self.now told.new.self step.result.0 told.result step.result.1 told.ensures.same told.ensures.kept told.ensures.done told.ensures.refused
    (subst (λ (s : Stage). OnOk step.result.1 (so s step.result.0)) c.replace-stage.ensures.value step.ensures.paged) none)
