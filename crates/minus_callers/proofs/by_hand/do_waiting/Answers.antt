-- The command that waits first is done, until none waits.
use Rattle.std.proofs.Common.{sym, ap, ◌∙◌}
use Rattle.minus_term.specs.Refusals.{refusal_of}
use Rattle.minus_state.proofs.RefusalLaws.{passed_on}
use Rattle.minus_state.specs.Control.{Control}
use Rattle.minus_state.specs.States.{control_of}
use Rattle.minus_commands.specs.Queued.{waiting_in}
use Rattle.minus_callers.specs.ByHand.{left_by_all, IsIoFault}
use Rattle.minus_callers.proofs.by_hand.do_waiting.Goals as goal

pub loop-command-preserved : goal.loop-command-preserved
loop-command-preserved g c =
    let so = c.loop-command.invariant in
    let done = c.do_next.ensures in
    let before = control_of c.loop-command.parts.state in
    let rest = waiting_in c.pop_front.new.self in (
      λ f. done.formed (so.0 f),
      done.kept ∙ so.1,
      done.classifier ∙ so.2,
      done.condition ∙ so.3,
      λ f. ap (λ (k : Control). left_by_all k rest) (c.in_ok-do_next.ensures.control (so.0 f)) ∙ sym (ap (left_by_all before) c.in-Some.ensures.first) ∙ so.4 f,
    )

pub returns-clause-control : goal.returns-clause-control
returns-clause-control g c f = sym (ap (left_by_all (control_of c.loop-command.parts.state)) c.in_default.ensures.none.0) ∙ c.loop-command.invariant.4 f

pub returns-in_err-do_next-clause-refused : goal.returns-in_err-do_next-clause-refused
returns-in_err-do_next-clause-refused g c =
    passed_on c.from_residual.result (λ e. IsIoFault (refusal_of e)) c.in_err-do_next.field-0.0 c.from_residual.ensures c.in_err-do_next.ensures.refused
