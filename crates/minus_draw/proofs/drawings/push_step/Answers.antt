-- The list of the kind, and the prompt row where it is another one.
use Rattle.std.proofs.Common.{sym, ◌∙◌}
use Rattle.minus_state.specs.States.{control_of}
use Rattle.minus_draw.proofs.PromptLaws.{drawn_with_prompt, drawn_before_prompt}
use Rattle.minus_draw.proofs.drawings.push_step.Goals as goal

pub returns-then-draws_prompt : goal.returns-then-draws_prompt
returns-then-draws_prompt c new h can same =
    drawn_with_prompt c.args.drawing (control_of c.args.state.now) new c.args.out.now.items _ (sym c.draws_prompt.ensures ∙ c.if-draws_prompt.true) (c.in_ok-push_drawing.ensures c.requires.formed new h can same)

pub returns : goal.returns
returns c new h can same =
    drawn_before_prompt c.args.drawing (control_of c.args.state.now) new c.args.out.now.items _ _ c.args.change.now.rows c.args.prompt.now c.args.before.now (sym c.draws_prompt.ensures ∙ c.if-draws_prompt.false) h.rows_are same c.requires.before (c.in_ok-push_drawing.ensures c.requires.formed new h can same) c.in_ok-push_changed_prompt.ensures
