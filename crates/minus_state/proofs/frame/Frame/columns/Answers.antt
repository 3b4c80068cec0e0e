-- The columns that are left in a frame of the document.
use Rattle.std.proofs.Common.{ℕ, ◌-◌, ap, ◌∙◌}
use Rattle.minus_state.specs.declared.frame.Frame.{Frame}
use Rattle.minus_state.proofs.frame.Frame.columns.Goals as goal

pub returns : goal.returns
returns c = λ d left e. c.saturating_sub.ensures ∙ ap (λ (f : Frame). f.layout.cols - c.prefix.result) e ∙ ap (λ (n : ℕ). d.layout.cols - n) (c.prefix.ensures d left e)
