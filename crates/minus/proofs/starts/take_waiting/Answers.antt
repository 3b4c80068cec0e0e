-- One more command, or the appends that come next.
use Rattle.std.proofs.Common.{◌≡◌, ◌∷◌, map, rules, sym, ap, subst, ◌∙◌}
use Rattle.minus_term.specs.Refusals.{refusal_of, for_memory}
use Rattle.minus_state.specs.Changes.{IsChange}
use Rattle.minus_state.specs.Control.{Control}
use Rattle.minus_state.specs.declared.change.Change.{Change}
use Rattle.minus_state.specs.States.{control_of}
use Rattle.minus_state.proofs.RefusalLaws.{passed_on}
use Rattle.minus_commands.specs.Reads.{wanted_of, wanted_by}
use Rattle.minus.specs.Starts.{taken_all}
use Rattle.minus_commands.specs.WaitingRegistrations.{CanTakeAll}
use Rattle.minus_commands.specs.Unmoved.{unmoved}
use Rattle.minus.proofs.StartLaws.{possible_memory}
use Rattle.minus.proofs.starts.take_waiting.Goals as goal

pub loop-command-preserved : goal.loop-command-preserved
loop-command-preserved g c =
    let at = c.loop-command in
    let old : Control = control_of at.state in
    let split : at.rest.now ≡ c.in-Some.command.now ∷ c.in-Some.behind.now = search rules in
    let all = ap (map wanted_of) split in
    let can = subst (CanTakeAll at.invariant.2.0) all at.invariant.2.1 in
    let left = map wanted_of c.in_ok-request.left.now in
    let w = wanted_by c.in_ok-request.request in
    let leads = subst (λ (x : Change). IsChange old x (unmoved old w)) (sym c.into_change.ensures) (c.in_ok-outcome.ensures.ok at.invariant.0).leads in
    let placed = c.in_ok-place.ensures in (
      placed.formed (unmoved old w) at.invariant.0 leads,
      ap (λ k. taken_all k left) (placed.control (unmoved old w) at.invariant.0 leads) ∙ c.in_ok-request.ensures.next ∙ ap (taken_all old) (sym all) ∙ at.invariant.1,
      c.in_ok-request.ensures.can at.invariant.2.0 can,
    )

pub returns-in_err-outcome-clause-memory : goal.returns-in_err-outcome-clause-memory
returns-in_err-outcome-clause-memory g c =
    let at = c.loop-command in
    let split : at.rest.now ≡ c.in-Some.command.now ∷ c.in-Some.behind.now = search rules in
    let can = subst (CanTakeAll at.invariant.2.0) (ap (map wanted_of) split) at.invariant.2.1 in
    let e = c.in_err-outcome.field-0.0 in
    let request = wanted_by c.in_ok-request.request in
    passed_on c.from_residual-in_err-outcome.result (λ x. refusal_of x ≡ for_memory) e c.from_residual-in_err-outcome.ensures (possible_memory (refusal_of e) request (c.in_ok-request.ensures.possible can.0) c.in_err-outcome.ensures.unformed)
