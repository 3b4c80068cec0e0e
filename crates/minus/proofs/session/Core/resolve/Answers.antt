-- The classifier's answer, or none, which asks for nothing.
use Rattle.std.proofs.Common.{◌≡◌, Option, Some, None, refl, sym, ap, subst, ◌∙◌}
use Rattle.std.specs.Option.{unwrap_or}
use Rattle.minus_term.specs.declared.event.Event.{Event}
use Rattle.minus_state.specs.declared.input.InputEvent.{InputEvent}
use Rattle.minus_state.specs.declared.input.InputEvent.TheVariants.{ShowHelp, Ignore}
use Rattle.minus.specs.Says.{Says, says_of}
use Rattle.minus_state.specs.TypedPrefix.{event_clears}
use Rattle.minus_commands.specs.Reads.{IsRequest, event_wanted, answer_wanted, an_event, wanted_by}
use Rattle.minus.specs.Asked.{clears_prefix}
use Rattle.minus.specs.Core.{seen_of}
use Rattle.minus.specs.Seen.{Seen}
use Rattle.minus_commands.specs.Table.{Wanted, hook_after}
use Rattle.minus_commands.proofs.RequestLaws.{due_as}
use Rattle.minus.proofs.session.Core.resolve.Goals as goal

asked_as : {Q K : Type 0} (answer : Option InputEvent) → event_wanted {Q = Q} {K = K} (unwrap_or answer Ignore) ≡ answer_wanted answer
asked_as None = refl
asked_as (Some event) = refl

same_clears : {Q K : Type 0} (e : Event) (a b : Wanted Q K) → a ≡ b → clears_prefix (an_event e) a ≡ clears_prefix (an_event e) b
same_clears e a b is = ap (λ (w : Wanted _ _). clears_prefix (an_event e) w) is

-- whether the prefix goes does not hang on the text of help
clears_as : {Q K : Type 0} (says : Says Q K) (seen : Seen Q K) (e : Event) (answer : InputEvent) (wanted : Wanted Q K) → IsRequest says.events seen.classifier seen.control.help (event_wanted answer) wanted → clears_prefix (an_event e) wanted ≡ event_clears answer
clears_as says seen e ShowHelp wanted h = same_clears e wanted _ h.2
clears_as says seen e answer wanted h = same_clears e wanted _ h

pub returns-in_ok-set_help-in-Event-clause-asked : goal.returns-in_ok-set_help-in-Event-clause-asked
returns-in_ok-set_help-in-Event-clause-asked g c =
    let says = says_of g.P.Condition.ConditionCall.judges g.P.Classifier.InputClassifier.says in
    let seen = seen_of c.args.self.now in
    let wanted = wanted_by c.set_help-in-Event.new.request in
    let asked = c.of_event-request.ensures.wanted ∙ ap event_wanted c.unwrap_or-answer.ensures ∙ asked_as c.classify_input-answer.result in
    let answered = subst (λ (w : Wanted _ _). IsRequest says.events seen.classifier seen.control.help w wanted) c.of_event-request.ensures.wanted c.in_ok-set_help-in-Event.ensures.ok in
    rw c.in-Event.is (record {
      asks = (c.args.self.now.parts.state, c.classify_input-answer.result, c.args.self.now.formed, refl, c.classify_input-answer.ensures, subst (λ (w : Wanted _ _). IsRequest says.events seen.classifier seen.control.help w wanted) asked c.in_ok-set_help-in-Event.ensures.ok);
      prefix = clears_as says seen c.in-Event.event c.unwrap_or-answer.result wanted answered ∙ sym c.clears_prefix.ensures;
    })

pub returns-in_ok-set_help-in-Command-clause-due : goal.returns-in_ok-set_help-in-Command-clause-due
returns-in_ok-set_help-in-Command-clause-due g c =
    let says = says_of g.P.Condition.ConditionCall.judges g.P.Classifier.InputClassifier.says in
    let seen = seen_of c.args.self.now in
    rw c.in-Command.is (due_as says.events seen.classifier seen.control.help seen.control _ _ c.in_ok-set_help-in-Command.ensures.ok ∙ ap (hook_after seen.control) c.of_command-request.ensures.wanted)
