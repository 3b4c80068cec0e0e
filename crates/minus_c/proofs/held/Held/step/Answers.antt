-- The answer of the session's step is told, and kept.
use Rattle.std.proofs.Common.{refl, ap, ◌∙◌}
use Rattle.minus_c.specs.HeldSteps.{told_by}
use Rattle.minus_c.proofs.StageLaws.{of_ok}
use Rattle.minus_c.proofs.held.Held.step.Goals as goal

pub returns-in-Ok-clause-step : goal.returns-in-Ok-clause-step
returns-in-Ok-clause-step c = λ done. record {
  answer = c.in-Ok.answer;
  kept = refl;
  tells = c.of_answer-told.ensures ∙ ap (told_by c.in-Ok.answer) c.step-answer.ensures.written;
  step = of_ok _ c.in-Ok.answer c.step-answer.result.0 c.in-Ok.is c.step-answer.ensures.step;
}
