-- The count of the bytes leaves the session as the refused step left it.
use Rattle.minus_c.proofs.SessionLaws.{refuses_on}
use Rattle.minus_c.proofs.StageLaws.{if_err}
use Rattle.minus_c.proofs.session.Session.step.Goals as goal

pub returns-clause-refused : goal.returns-clause-refused
returns-clause-refused c = if_err _ _ (λ e is. refuses_on _ _ _ _ _ _ c.unread-written.ensures.same.seen c.unread-written.ensures.same.sink e is) c.step-answer.result c.step-answer.ensures.refused
