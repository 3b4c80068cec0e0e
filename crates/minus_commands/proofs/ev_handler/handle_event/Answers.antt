-- A command waits, or is done.
use Rattle.std.proofs.Common.{Option, is_some, string_bytes, sym, ap, subst, ◌∙◌}
use Rattle.std.proofs.lemmas.List.{append-nil}
use Rattle.std.specs.Option.{option_map}
use Rattle.minus_term.specs.Refusals.{refusal_of}
use Rattle.minus_state.proofs.RefusalLaws.{passed_on}
use Rattle.minus_state.specs.Changes.{IsChange}
use Rattle.minus_state.specs.ClampedMark.{clamp}
use Rattle.minus_state.specs.declared.change.Change.{Change}
use Rattle.minus_state.specs.States.{control_of, IsFormed}
use Rattle.minus_commands.specs.declared.ev_handler.Handled.{Handled}
use Rattle.minus_commands.specs.Reads.{IsRequest, io_of, kept_of, handing_of, wanted_by}
use Rattle.minus_commands.specs.Callbacks.{callbacks_of}
use Rattle.minus_commands.specs.EvHandler.{IsRequestTo, CannotHandle}
use Rattle.minus_commands.specs.Registration.{Handing, kept_after, classifier_after, condition_after, IsFreeFor}
use Rattle.minus_commands.specs.Table.{Wanted, hands_over}
use Rattle.minus_commands.specs.Unmoved.{unmoved}
use Rattle.minus_commands.proofs.EventLaws.{is_done, both_wait, cannot_form}
use Rattle.minus_commands.proofs.RequestLaws.{none_handed, none_kept}
use Rattle.minus_commands.proofs.ev_handler.handle_event.Goals as goal

pub returns-in-HandOver-clause-handled : goal.returns-in-HandOver-clause-handled
returns-in-HandOver-clause-handled g c =
    let says = g.P.Classifier.InputClassifier.says in
    let old = c.args.parts.now in
    let kept = c.in_ok-keep_handed.ensures in
    let no_io = sym (ap is_some c.io.ensures) ∙ sym c.is_some.ensures ∙ c.if-is_some.false in
    let asked = subst (λ (w : Wanted _ _). IsRequest says old.classifier (control_of old.state).help w (wanted_by c.in_ok-request.request)) c.of_command.ensures.wanted c.in_ok-request.ensures.ok in
    let request = subst (λ r. IsRequestTo says old c.args.command (wanted_by r)) c.in-HandOver.is asked in
    is_done (io_of c.args.command) says old _ c.args.command _ _ _ (hands_over (handing_of c.in-HandOver.handed)) no_io request (record {
      control = λ f. c.clamp_mark.ensures.control (subst IsFormed (sym kept.state) f) ∙ ap (λ s. clamp (control_of s)) kept.state;
      free = kept.free;
      kept = kept.kept;
      classifier = kept.classifier;
      condition = kept.condition;
      queue_is = λ f. c.in_ok-reserve.ensures.same ∙ sym (append-nil c.args.queue.now.commands.items);
      exited = ap (λ (h : Handled). h.exited) c.nothing-in-HandOver.ensures;
      copied = λ f. ap (λ (h : Handled). option_map string_bytes h.copied) c.nothing-in-HandOver.ensures;
    })

pub returns-in_err-outcome-clause-refused : goal.returns-in_err-outcome-clause-refused
returns-in_err-outcome-clause-refused g c =
    let says = g.P.Classifier.InputClassifier.says in
    let old = c.args.parts.now in
    let e = c.in_err-outcome.field-0.0 in
    let request = subst (λ (w : Wanted _ _). IsRequest says old.classifier (control_of old.state).help w (wanted_by c.in_ok-request.request)) c.of_command.ensures.wanted c.in_ok-request.ensures.ok in
    passed_on c.from_residual-in_err-outcome.result (λ x. CannotHandle (refusal_of x) says old c.args.command) e c.from_residual-in_err-outcome.ensures (cannot_form (refusal_of e) says old c.args.command (wanted_by c.in_ok-request.request) request c.in_err-outcome.ensures.unformed)

pub returns-clause-handled : goal.returns-clause-handled
returns-clause-handled g c =
    let says = g.P.Classifier.InputClassifier.says in
    let old = c.args.parts.now in
    let w = wanted_by c.in_ok-request.request in
    let of = c.in_ok-outcome.ensures.ok in
    let no_io = sym (ap is_some c.io.ensures) ∙ sym c.is_some.ensures ∙ c.if-is_some.false in
    let request = subst (λ (x : Wanted _ _). IsRequest says old.classifier (control_of old.state).help x w) c.of_command.ensures.wanted c.in_ok-request.ensures.ok in
    let none = none_handed c.in_ok-request.request c.in_default.not-HandOver in
    let leads : IsFormed old.state → IsChange (control_of old.state) c.into_change.result (unmoved (control_of old.state) w) = λ f. subst (λ (x : Change). IsChange (control_of old.state) x (unmoved (control_of old.state) w)) (sym c.into_change.ensures) (of f).leads in
    is_done (io_of c.args.command) says old _ c.args.command _ _ _ w no_io request (record {
      control = λ f. c.in_ok-place.ensures.control (unmoved (control_of old.state) w) f (leads f);
      free = subst (λ (h : Option (Handing _ _)). IsFreeFor (kept_of old).ids h) (sym none) tt;
      kept = ap (λ (h : Option (Handing _ _)). kept_after (kept_of old) h) (sym none);
      classifier = ap (λ (h : Option (Handing _ _)). classifier_after old.classifier h) (sym none);
      condition = ap (λ (h : Option (Handing _ _)). condition_after old.condition h) (sym none);
      queue_is = λ f. both_wait (control_of old.state) w c.in_ok-outcome.outcome c.drawing_command-drawing.result c.move_command-movement.result _ _ _ _ (of f) c.drawing_command-drawing.ensures c.move_command-movement.ensures c.in_ok-reserve.ensures.same c.push_reserved.ensures.pushed c.push_reserved-2.ensures.pushed;
      exited = c.in_ok-outcome.ensures.exits;
      copied = λ f. ap (option_map string_bytes) c.take.ensures.value ∙ (of f).copies;
    })

pub returns-clause-callbacks : goal.returns-clause-callbacks
returns-clause-callbacks g c =
    let held = callbacks_of c.args.parts.now in
    sym (none_kept c.in_ok-request.request held c.in_default.not-HandOver) ∙ c.in_ok-request.ensures.keeps held ∙ c.of_command.ensures.keeps held
