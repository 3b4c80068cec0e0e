-- The command was handled, and what waited then was done.
use Rattle.std.proofs.Common.{List, refl, subst, inl, inr}
use Rattle.minus_term.specs.Refusals.{refusal_of}
use Rattle.minus_state.proofs.RefusalLaws.{passed_on}
use Rattle.minus_commands.specs.declared.commands.CommandOf.{CommandOf}
use Rattle.minus_commands.specs.EvHandler.{HandlesAs}
use Rattle.minus_commands.specs.Queued.{waiting_in}
use Rattle.minus_commands.specs.Reads.{io_of}
use Rattle.minus_callers.specs.ByHand.{CannotPerform}
use Rattle.minus_callers.proofs.ByHandLaws.{all_done}
use Rattle.minus_callers.proofs.by_hand.perform.Goals as goal

pub returns-clause-done : goal.returns-clause-done
returns-clause-done g c none =
    let says = g.P.Classifier.InputClassifier.says in
    let old = c.args.parts.now in
    let command = c.args.command in
    let handled = c.in_ok-handled.handled in
    let handling = c.handle_event.new.parts in
    let queue = waiting_in c.handle_event.new.queue in
    let waiting = c.do_waiting.ensures in
    all_done (io_of command) says old command handling c.do_waiting.new.parts queue handled refl
    (subst (λ (l : List (CommandOf _ _ _ _ _)). HandlesAs (io_of command) says old l command handling queue handled) none c.in_ok-handled.ensures.handled)
    (λ f. c.in_ok-do_waiting.ensures.control (c.handle_event.ensures.formed f)) waiting.kept waiting.classifier waiting.condition

pub returns-in_err-handled-clause-refused : goal.returns-in_err-handled-clause-refused
returns-in_err-handled-clause-refused g c =
    let says = g.P.Classifier.InputClassifier.says in
    let e = c.in_err-handled.field-0.0 in
    passed_on c.from_residual.result (λ x. CannotPerform (refusal_of x) says c.args.parts.now c.args.command) e c.from_residual.ensures (inr c.in_err-handled.ensures.refused)

pub returns-in_err-do_waiting-clause-refused : goal.returns-in_err-do_waiting-clause-refused
returns-in_err-do_waiting-clause-refused g c =
    let says = g.P.Classifier.InputClassifier.says in
    let e = c.in_err-do_waiting.field-0.0 in
    passed_on c.from_residual-in_err-do_waiting.result (λ x. CannotPerform (refusal_of x) says c.args.parts.now c.args.command) e c.from_residual-in_err-do_waiting.ensures (inl c.in_err-do_waiting.ensures.refused)
