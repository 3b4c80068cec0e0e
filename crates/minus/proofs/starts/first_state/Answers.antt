-- The commands that waited are read in from the first control on.
use Rattle.std.proofs.Common.{map, ap, sym, subst, ◌∙◌}
use Rattle.minus_state.specs.Control.{Control}
use Rattle.minus_state.specs.Changes.{IsUnformedState}
use Rattle.minus_state.specs.States.{at_start}
use Rattle.minus_term.specs.Refusals.{Refusal, refusal_of}
use Rattle.minus_commands.specs.Reads.{wanted_of}
use Rattle.minus.specs.Starts.{taken_all}
use Rattle.minus_state.proofs.RefusalLaws.{passed_on}
use Rattle.minus.proofs.starts.first_state.Goals as goal

pub returns-clause-control : goal.returns-clause-control
returns-clause-control g c =
    let waiting = map wanted_of c.waiting.result.now in
    c.in_ok-take_waiting.ensures.control ∙ ap (λ (x : Control). taken_all x waiting) c.in_ok-state.ensures.control ∙ ap (λ queue. taken_all (at_start c.args.cols c.args.rows) (map wanted_of queue)) c.waiting.ensures

pub returns-in_err-state-clause-refused : goal.returns-in_err-state-clause-refused
returns-in_err-state-clause-refused g c = passed_on c.from_residual.result (λ e. IsUnformedState (refusal_of e) c.args.cols c.args.rows) c.in_err-state.field-0.0 c.from_residual.ensures c.in_err-state.ensures.refused

pub returns-in_err-take_waiting-clause-refused : goal.returns-in_err-take_waiting-clause-refused
returns-in_err-take_waiting-clause-refused g c = passed_on c.from_residual-in_err-take_waiting.result (λ e. IsUnformedState (refusal_of e) c.args.cols c.args.rows) c.in_err-take_waiting.field-0.0 c.from_residual-in_err-take_waiting.ensures (subst (λ (r : Refusal). IsUnformedState r c.args.cols c.args.rows) (sym c.in_err-take_waiting.ensures.memory) c.in_ok-state.ensures.size)
