-- It is that of the change that changes nothing.
use Rattle.std.proofs.Common.{ap, ◌∙◌}
use Rattle.std.proofs.lemmas.Result.{IfOk-weaker}
use Rattle.minus_state.specs.PromptRow.{prompt_row}
use Rattle.minus_state.specs.States.{control_of}
use Rattle.minus_state.proofs.ChangeLaws.{unchanged, prompt_stays}
use Rattle.minus_state.proofs.state.PagerState.displayed_prompt.Goals as goal

pub returns-clause-row : goal.returns-clause-row
returns-clause-row c =
    IfOk-weaker c.prompt_row_after.result _ _ (λ row h. h ∙ ap prompt_row (prompt_stays c.args.self.now c.redrawn-stays.result _ c.redrawn-stays.ensures.is)) c.prompt_row_after.ensures.row

pub returns-clause-formed : goal.returns-clause-formed
returns-clause-formed c =
    IfOk-weaker c.prompt_row_after.result _ _ (λ row h f. h (control_of c.args.self.now) f (unchanged c.args.self.now c.redrawn-stays.result _ c.redrawn-stays.ensures.is)) c.prompt_row_after.ensures.formed
