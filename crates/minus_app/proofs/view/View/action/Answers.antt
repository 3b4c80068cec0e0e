-- The state and the register are the session's.
use Rattle.std.proofs.Common.{◌≡◌, ap, ◌∙◌}
use Rattle.minus_state.specs.Help.{help_open}
use Rattle.minus_state.specs.States.{control_of}
use Rattle.minus_input.specs.EventTables.{register_of}
use Rattle.minus_app.specs.Actions.{view_action}
use Rattle.minus_app.specs.Keys.{done_by, held}
use Rattle.minus_app.proofs.view.View.action.Goals as goal

pub returns : goal.returns
returns o c =
    let same : help_open (control_of c.state.result.now) ≡ help_open (control_of c.args.self.now.session.parts.state) =
    ap (λ s. help_open (control_of s)) c.state.ensures.same in
    let done = ap (λ k. view_action (done_by (register_of k) c.args.event.now)) c.classifier.ensures in
    c.held.ensures
    ∙ ap (λ h. held h c.view_action-action.result) (c.help_open.ensures ∙ same)
    ∙ ap (held (help_open (control_of c.args.self.now.session.parts.state))) (c.view_action-action.ensures ∙ done)
