-- The step leaves a text that is followed.
use Rattle.minus_callers.proofs.StepLaws.{now_follows}
use Rattle.minus_callers.proofs.follower.follow.Goals as goal

pub returns : goal.returns
returns g c = λ closed ready. now_follows _ _ _ _ _ _ c.in_ok-step.ensures.step.step closed ready
