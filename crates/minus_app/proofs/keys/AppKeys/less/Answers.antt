-- Each key of `less` is added where nothing is bound.
use Rattle.minus_app.proofs.KeptLaws.{hides_none}
use Rattle.minus_app.proofs.keys.AppKeys.less.Goals as goal

pub loop-bound-init : goal.loop-bound-init
loop-bound-init g c = (hides_none c.in_ok-keys.ensures.keys, c.in_ok-keys.ensures.acts)
