-- What events ask for as long as the classifier is a register of the default bindings.
use Rattle.std.proofs.Common.{◌≡◌, Option, Some, refl, subst}
use Rattle.minus_term.specs.declared.event.Event.{Event}
use Rattle.minus_state.specs.declared.input.InputEvent.{InputEvent}
use Rattle.minus_state.specs.declared.state.PagerState.{PagerState}
use Rattle.minus_input.specs.declared.classifier.Classifier.{Classifier}
use Rattle.minus_input.specs.declared.classifier.Classifier.TheVariants.{Register, Random, Boxed}
use Rattle.minus_input.specs.declared.event_form.EventWrapper.TheVariants.{ExactMatchEvent}
use Rattle.minus_input.specs.DefaultBindings.{default_asks, default_register}
use Rattle.minus_input.specs.DefaultClassifier.{IsDefault}
use Rattle.minus_input.specs.EventForm.{same_event}
use Rattle.minus_input.specs.EventTables.{register_of}
use Rattle.minus_input.specs.Register as registers
use Rattle.minus_input.specs.RegisterAnswers.{Answering, IsAnswerOf}
use Rattle.minus_input.specs.declared.bound.ActionOf.{ActionOf}
use Rattle.minus_input.specs.declared.event_form.EventWrapper.{EventWrapper}
use Rattle.minus_input.proofs.DefaultBindingsLaws.{defaults_answer_once}

-- a default classifier is a register of the default bindings
pub default_of : {C I : Type 0} {D : I → Type 0} (k : Classifier C I D) → IsDefault k → (register : _) × (k ≡ Register register) × (register_of register ≡ default_register)
default_of (Register register) first = (register, refl, first)
default_of (Random register) first = absurd first
default_of (Boxed classifier) first = absurd first

-- a register of the default bindings has the answer of the table alone
pub one_default_answer : {C : Type 0} (Answers : Answering C) (register : registers.Register EventWrapper (ActionOf C)) (e : Event) (state : PagerState) (answer : Option InputEvent) → register ≡ default_register →
    IsAnswerOf Answers (registers.action_at same_event register (ExactMatchEvent e)) e state answer → answer ≡ Some (default_asks e state)
one_default_answer Answers register e state answer is h =
    (defaults_answer_once Answers e state answer).0 (subst (λ r. IsAnswerOf Answers (registers.action_at same_event r (ExactMatchEvent e)) e state answer) is h)
