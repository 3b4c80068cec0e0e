-- What stands before a line in a frame of the document.
use Rattle.std.proofs.Common.{◌+◌, true, ap, ◌∙◌}
use Rattle.minus_text.specs.NumberPrefix.{is_on, prefix}
use Rattle.minus_state.specs.declared.frame.Frame.{Frame}
use Rattle.minus_state.proofs.frame.Frame.line.Goals as goal

pub returns-clause-prefix : goal.returns-clause-prefix
returns-clause-prefix c = λ d left e. c.new.ensures.prefix
    ∙ ap (λ b. prefix b c.args.self.line_count (c.args.i + 1) true) c.is_on-numbers.ensures
    ∙ ap (λ (f : Frame). prefix (is_on f.layout.numbers) f.line_count (c.args.i + 1) true) e
