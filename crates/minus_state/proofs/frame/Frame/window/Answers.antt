-- The columns that are left, from the left mark on.
use Rattle.std.proofs.Common.{ap, ap₂}
use Rattle.minus_state.specs.declared.frame.Frame.{Frame}
use Rattle.minus_state.proofs.frame.Frame.window.Goals as goal

pub returns : goal.returns
returns c = λ d left e. ap₂ (λ from n. record { left = from; width = n }) (ap (λ (f : Frame). f.left_mark) e) (c.columns.ensures d left e)
