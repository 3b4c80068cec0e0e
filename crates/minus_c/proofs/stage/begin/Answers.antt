-- The start that was refused leaves the pager, or its sink.
use Rattle.minus_c.proofs.StageLaws.{leaves}
use Rattle.minus_c.proofs.stage.begin.Goals as goal

pub returns-in-Err-clause-refused : goal.returns-in-Err-clause-refused
returns-in-Err-clause-refused c =
    leaves _ c.in-Err.refused _ _ c.after_refusal.ensures.cause c.after_refusal.ensures.left c.in-Err.ensures.refused
