-- What a prefix takes in a frame of the document.
use Rattle.std.proofs.Common.{ap, ◌∙◌}
use Rattle.minus_text.specs.NumberPrefix.{is_on, prefix_columns}
use Rattle.minus_state.specs.declared.frame.Frame.{Frame}
use Rattle.minus_state.proofs.frame.Frame.prefix.Goals as goal

pub returns : goal.returns
returns c d left e = c.prefix_columns.ensures.value ∙ ap (λ b. prefix_columns b c.args.self.line_count) c.is_on.ensures ∙ ap (λ (f : Frame). prefix_columns (is_on f.layout.numbers) f.line_count) e
