-- Laws of the default bindings.
use Rattle.std.proofs.Common.{◌≡◌, List, [], ◌∷◌, Option, None, Some, refl, sym, ap, ◌∙◌, subst, inl, inr}
use Rattle.std.specs.Prelude.{◌↔◌}
use Rattle.std.specs.Option.{unwrap_or, option_map}
use Rattle.std.proofs.lemmas.Bool.{cases_Bool}
use Rattle.std.proofs.lemmas.Option.{none-some}
use Rattle.minus_term.specs.declared.event.Event.{Event}
use Rattle.minus_state.specs.declared.input.InputEvent.{InputEvent}
use Rattle.minus_state.specs.declared.state.PagerState.{PagerState}
use Rattle.minus_input.specs.declared.bound.ActionOf.TheVariants as action
use Rattle.minus_input.specs.declared.bound.Bound.{Bound}
use Rattle.minus_input.specs.declared.bound.KeptCallback.{KeptCallback}
use Rattle.minus_input.specs.declared.default_action.DefaultAction.{DefaultAction}
use Rattle.minus_input.specs.declared.default_action.DefaultAction.TheVariants.{TypeDigit}
use Rattle.minus_input.specs.declared.event_form.EventWrapper.{EventWrapper}
use Rattle.minus_input.specs.declared.event_form.EventWrapper.TheVariants.{ExactMatchEvent}
use Rattle.minus_input.specs.DefaultAnswers.{default_answer}
use Rattle.minus_input.specs.DefaultBindings.{default_keys, bindings_of, default_register, default_action_at, default_asks, DefaultsHaveOneAnswer, JScrollsDown}
use Rattle.minus_input.specs.EventForm.{same_event}
use Rattle.minus_input.specs.Register.{bind, bind_each, bound_to, action_or, action_at}
use Rattle.minus_input.specs.RegisterAnswers.{Answering, IsAnswerOf}
use Rattle.minus_input.specs.Resolved.{binding_at, default_binding, default_bounds, EachIsRead, read_each}
use Rattle.minus_input.proofs.RegisterLaws.{EachIsRead-bind_each, read_bind_each, some_is}

module _ {C : Type 0} (kept : List (KeptCallback C)) where
  defaults_are_read : (ks : List (EventWrapper × DefaultAction)) → EachIsRead (binding_at kept) (default_bounds ks)
  defaults_are_read [] = tt
  defaults_are_read (k ∷ ks) = (refl, defaults_are_read ks)

  read_defaults : (ks : List (EventWrapper × DefaultAction)) → read_each (binding_at kept) (default_bounds ks) ≡ bindings_of ks
  read_defaults [] = refl
  read_defaults (k ∷ ks) = ap (λ l. (k.0, default_binding k.1) ∷ l) (read_defaults ks)

  module _ (old mid new : List (EventWrapper × Bound)) (ks : List (EventWrapper × DefaultAction)) (room : mid ≡ old) (bound : new ≡ bind_each same_event mid (default_bounds ks))
      (is : ks ≡ default_keys) (h : EachIsRead (binding_at kept) old) where
    abbrev all_bound : new ≡ bind_each same_event old (default_bounds default_keys)
    all_bound = bound ∙ ap (λ l. bind_each same_event l (default_bounds ks)) room ∙ ap (λ l. bind_each same_event old (default_bounds l)) is

    -- the default bindings were bound, and all can be read
    pub defaults_are_kept : EachIsRead (binding_at kept) new
    defaults_are_kept = subst (EachIsRead (binding_at kept)) (sym all_bound) (EachIsRead-bind_each (binding_at kept) same_event old (default_bounds default_keys) (defaults_are_read default_keys) h)

    pub defaults_are_bound : read_each (binding_at kept) new ≡ bind_each same_event (read_each (binding_at kept) old) (bindings_of default_keys)
    defaults_are_bound =
        ap (read_each (binding_at kept)) all_bound ∙ read_bind_each (binding_at kept) same_event old (default_bounds default_keys) (defaults_are_read default_keys) h
        ∙ ap (bind_each same_event (read_each (binding_at kept) old)) (read_defaults default_keys)

module _ {C : Type 0} where
  bindings_of_bind : (es : List (EventWrapper × DefaultAction)) (k : EventWrapper) (d : DefaultAction) → bindings_of {C = C} (bind same_event es k d) ≡ bind same_event (bindings_of es) k (default_binding d)
  bindings_of_bind [] k d = refl
  bindings_of_bind (e ∷ es) k d = elim (cases_Bool (same_event k e.0)) [
    | inl t ↦ rw t refl
    | inr f ↦ rw f (ap (λ l. (e.0, default_binding e.1) ∷ l) (bindings_of_bind es k d))
  ]

  bindings_of_bind_each : (es ps : List (EventWrapper × DefaultAction)) → bindings_of {C = C} (bind_each same_event es ps) ≡ bind_each same_event (bindings_of es) (bindings_of ps)
  bindings_of_bind_each es [] = refl
  bindings_of_bind_each es (p ∷ ps) =
      bindings_of_bind_each (bind same_event es p.0 p.1) ps ∙ ap (λ l. bind_each same_event l (bindings_of ps)) (bindings_of_bind es p.0 p.1)

  bound_in_bindings : (es : List (EventWrapper × DefaultAction)) (k : EventWrapper) → bound_to same_event (bindings_of {C = C} es) k ≡ option_map default_binding (bound_to same_event es k)
  bound_in_bindings [] k = refl
  bound_in_bindings (e ∷ es) k = elim (cases_Bool (same_event k e.0)) [
    | inl t ↦ rw t refl
    | inr f ↦ rw f (bound_in_bindings es k)
  ]

  default_or : (o : Option DefaultAction) → action_or (option_map (default_binding {C = C}) o) (Some (action.Default TypeDigit)) ≡ Some (action.Default (unwrap_or o TypeDigit))
  default_or None = refl
  default_or (Some d) = refl

  -- what the register of the default bindings does at an event
  pub default_found : (e : Event) → action_at same_event (default_register {C = C}) (ExactMatchEvent e) ≡ Some (action.Default (default_action_at e))
  default_found e =
      ap (λ l. action_or (bound_to same_event l (ExactMatchEvent e)) (Some (action.Default TypeDigit))) (sym (bindings_of_bind_each [] default_keys))
      ∙ ap (λ o. action_or o (Some (action.Default TypeDigit))) (bound_in_bindings (bind_each same_event [] default_keys) (ExactMatchEvent e))
      ∙ default_or (bound_to same_event (bind_each same_event [] default_keys) (ExactMatchEvent e))

one_answer : {C : Type 0} (Answers : Answering C) (d : DefaultAction) (e : Event) (state : PagerState) (answer : Option InputEvent) →
    IsAnswerOf Answers (Some (action.Default d)) e state answer ↔ (answer ≡ Some (default_answer d e state))
one_answer Answers d e state None = (λ h. absurd h, λ h. absurd (none-some (default_answer d e state) h))
one_answer Answers d e state (Some a) = (λ h. ap Some h, λ h. some_is a (default_answer d e state) h)

pub defaults_answer_once : {C : Type 0} (Answers : Answering C) → DefaultsHaveOneAnswer Answers
defaults_answer_once Answers e state answer =
    subst (λ o. IsAnswerOf Answers o e state answer ↔ (answer ≡ Some (default_asks e state))) (sym (default_found e)) (one_answer Answers (default_action_at e) e state answer)

-- the key `j` scrolls down
pub j_asks : JScrollsDown
unfolding default_keys same_event
j_asks state = refl
