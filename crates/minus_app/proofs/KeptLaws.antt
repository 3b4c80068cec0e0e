-- Keys that are bound stay what they are where others are bound.
use Rattle.std.proofs.Common.{◌≡◌, ℕ, Bool, true, false, cond, List, [], ◌∷◌, None, Some, is_some, true≢false, refl, sym, ap, ◌∙◌, inl, inr}
use Rattle.std.specs.Cmp.{IsEquivalence}
use Rattle.std.specs.List.{AllByRecursion, list_any}
use Rattle.std.proofs.lemmas.Bool.{cases_Bool}
use Rattle.minus_state.proofs.HookLaws.{none_passes}
use Rattle.minus_input.proofs.LookupLaws.{bound_are_found}
use Rattle.minus_input.specs.Register.{Register, bind, bind_all, bound_to, first_bound}
use Rattle.minus_input.specs.Described.{Describing}
use Rattle.minus_input.specs.EventEquality.{same_event_laws}
use Rattle.minus_input.specs.EventForm.{same_event}
use Rattle.minus_input.specs.RegisterCalls.{IsAdded}
use Rattle.minus_input.specs.declared.bound.ActionOf.{ActionOf}
use Rattle.minus_input.specs.declared.event_form.EventWrapper.{EventWrapper}
use Rattle.minus_app.specs.Keys.{HidesNothing}
use Rattle.minus_app.specs.declared.keys.KeyAction.{KeyAction}

module _ {K B : Type 0} (same : K → K → Bool) (law : IsEquivalence same) where
  -- equal keys have one thing bound to them
  alike_bound : (es : List (K × B)) (key other : K) → same other key ≡ true → bound_to same es other ≡ bound_to same es key
  alike_bound [] key other is = refl
  alike_bound (e ∷ es) key other is =
      rw (law.congr other key e.0 is) (ap (λ o. cond (same key e.0) (Some e.1) o) (alike_bound es key other is))

  -- a key that is bound is equal to none that is not
  differs : (es : List (K × B)) (ks : List K) (other : K) → list_any (λ k. is_some (bound_to same es k)) ks ≡ false
      → is_some (bound_to same es other) ≡ true → AllByRecursion (λ k. same other k ≡ false) ks
  differs es [] other none is = tt
  differs es (k ∷ ks) other none is = elim (cases_Bool (is_some (bound_to same es k))) [
    | inl t ↦ absurd (true≢false (rw t at none))
    | inr f ↦ (apart (same other k) refl f, differs es ks other (rw f at none) is)
  ]
    where
      apart : (x : Bool) → same other k ≡ x → is_some (bound_to same es k) ≡ false → same other k ≡ false
      apart true t f = absurd (true≢false (sym is ∙ ap is_some (alike_bound es k other t) ∙ f))
      apart false t f = t

  all_kept : (es : List (K × B)) (ks : List K) (b : B) (other : K) → AllByRecursion (λ k. same other k ≡ false) ks
      → bound_to same (bind_all same es ks b) other ≡ bound_to same es other
  all_kept es [] b other h = refl
  all_kept es (k ∷ ks) b other h =
      all_kept (bind same es k b) ks b other h.1 ∙ bound_are_found same law es k other b ∙ rw h.0 refl

  pub kept : (es : List (K × B)) (ks : List K) (b : B) (other : K) → first_bound same es ks ≡ None
      → is_some (bound_to same es other) ≡ true → bound_to same (bind_all same es ks b) other ≡ bound_to same es other
  kept es ks b other none is =
      all_kept es ks b other (differs es ks other (none_passes (λ k. is_some (bound_to same es k)) ks none) is)

-- keys that are added where none of them is bound hide nothing
pub added_hides_nothing : {Describes : Describing} {texts : List (List ℕ)} {callback : KeyAction} {description : List ℕ}
    {old new : Register EventWrapper (ActionOf KeyAction)} → IsAdded Describes texts false callback description old new → HidesNothing old new
added_hides_nothing {old = old} added = λ key is.
    ap (λ (r : Register EventWrapper (ActionOf KeyAction)). bound_to same_event r.bindings key) added.bound
    ∙ kept same_event same_event_laws old.bindings added.keys _ key (added.unbound refl) is

-- a register hides nothing of itself, and one after another they hide nothing
pub hides_none : {old new : Register EventWrapper (ActionOf KeyAction)} → new ≡ old → HidesNothing old new
hides_none same = λ key is. ap (λ (r : Register EventWrapper (ActionOf KeyAction)). bound_to same_event r.bindings key) same

pub hides_on : (old next new : Register EventWrapper (ActionOf KeyAction)) → HidesNothing old next → HidesNothing next new → HidesNothing old new
hides_on old next new first more = λ key is. let same = first key is in more key (ap is_some same ∙ is) ∙ same

-- where some element passes there is one that does
pub some_passes : {X : Type 0} (p : X → Bool) (xs : List X) → list_any p xs ≡ true → (x : X) × (p x ≡ true)
some_passes p [] none = absurd (true≢false (sym none))
some_passes p (x ∷ xs) some = elim (cases_Bool (p x)) [
  | inl t ↦ (x, t)
  | inr f ↦ some_passes p xs (rw f at some)
]
