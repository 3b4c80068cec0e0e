-- What it is formed of after the change.
use Rattle.std.proofs.Common.{ap, ◌∙◌}
use Rattle.minus_state.specs.PromptRow.{prompt_row}
use Rattle.minus_state.proofs.ChangeLaws.{prompt_next}
use Rattle.minus_state.proofs.state.PagerState.prompt_row_after.Goals as goal

pub returns-clause-row : goal.returns-clause-row
returns-clause-row c = c.in_ok-text.ensures.text ∙ ap prompt_row c.prompt_after-row.ensures

pub returns-clause-formed : goal.returns-clause-formed
returns-clause-formed c new f h = c.in_ok-text.ensures.text ∙ ap prompt_row (c.prompt_after-row.ensures ∙ prompt_next c.args.self.now c.args.change.now new f h)
