-- The step adds what was fetched.
use Rattle.minus_callers.proofs.StepLaws.{adds_text}
use Rattle.minus_callers.proofs.fetcher.fetch.Goals as goal

pub returns : goal.returns
returns g c = λ takes. adds_text _ _ _ _ _ _ _ c.in_ok-step.ensures.step.step takes
