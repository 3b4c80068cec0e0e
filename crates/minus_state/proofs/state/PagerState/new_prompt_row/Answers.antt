-- It stays, or it is the one after the change.
use Rattle.std.proofs.Common.{ap, sym, ◌∙◌}
use Rattle.minus_state.specs.PromptRow.{prompt_row}
use Rattle.minus_state.proofs.ChangeLaws.{prompt_next, prompt_now}
use Rattle.minus_state.proofs.state.PagerState.new_prompt_row.Goals as goal

pub returns-then-keeps_prompt_row-clause-row : goal.returns-then-keeps_prompt_row-clause-row
returns-then-keeps_prompt_row-clause-row c = ap prompt_row (sym (c.keeps_prompt_row.ensures c.if-keeps_prompt_row.true))

pub returns-then-keeps_prompt_row-clause-formed : goal.returns-then-keeps_prompt_row-clause-formed
returns-then-keeps_prompt_row-clause-formed c new f h =
    ap prompt_row (sym (prompt_now c.args.self.now f) ∙ sym (c.keeps_prompt_row.ensures c.if-keeps_prompt_row.true) ∙ prompt_next c.args.self.now c.args.change.now new f h)

pub returns-clause-row : goal.returns-clause-row
returns-clause-row c = c.in_ok-row.ensures.row

pub returns-clause-formed : goal.returns-clause-formed
returns-clause-formed c new f h = c.in_ok-row.ensures.formed new f h
