-- What is bound to each key after one was bound, or removed.
use Rattle.std.proofs.Common.{◌≡◌, Bool, true, false, cond, List, [], ◌∷◌, Option, None, Some, true≢false, refl, sym, ◌∙◌, inl, inr}
use Rattle.std.specs.Cmp.{IsEquivalence}
use Rattle.std.specs.List.{AllByRecursion, IsDistinct}
use Rattle.std.specs.Map.{keys_of}
use Rattle.std.proofs.lemmas.Bool.{cases_Bool}
use Rattle.minus_input.specs.Register.{bind, unbind, bound_to}
use Rattle.minus_input.specs.Lookups.{BoundKeysAreFound, RemovedKeysAreGone}

module _ {K : Type 0} (same : K → K → Bool) (law : IsEquivalence same) where
  -- equal keys are equal to the same keys
  alike : (key first other : K) → same key first ≡ true → same other key ≡ same other first
  alike key first other is = law.symm other key ∙ law.congr key first other is ∙ law.symm first other

  -- no key is equal to two that differ
  apart : (key first other : K) → same key first ≡ false → same other first ≡ true → same other key ≡ false
  apart key first other differ is = elim (cases_Bool (same other key)) [
    | inl t ↦ absurd (true≢false (sym is ∙ law.congr other key first t ∙ differ))
    | inr f ↦ f
  ]

module _ {K B : Type 0} (same : K → K → Bool) (law : IsEquivalence same) where
  replaced : (x : Bool) (new old : B) (rest : Option B) → cond x (Some new) rest ≡ cond x (Some new) (cond x (Some old) rest)
  replaced true new old rest = refl
  replaced false new old rest = refl

  pub bound_are_found : BoundKeysAreFound same B
  bound_are_found [] key other bound = refl
  bound_are_found (e ∷ es) key other bound = elim (cases_Bool (same key e.0)) [
    | inl t ↦ rw (t, alike same law key e.0 other t) (replaced (same other e.0) bound e.1 (bound_to same es other))
    | inr f ↦ rw f (later (bound_are_found es key other bound) (same other e.0) refl f)
  ]
    where
      later : bound_to same (bind same es key bound) other ≡ cond (same other key) (Some bound) (bound_to same es other) → (x : Bool) → same other e.0 ≡ x → same key e.0 ≡ false →
          cond (same other e.0) (Some e.1) (bound_to same (bind same es key bound) other) ≡ cond (same other key) (Some bound) (cond (same other e.0) (Some e.1) (bound_to same es other))
      later more true is differ = rw (is, apart same law key e.0 other differ is) refl
      later more false is differ = rw is more

  nothing : (x : Bool) → ◌≡◌ {A = Option B} None (cond x None None)
  nothing true = refl
  nothing false = refl

  -- a key that is equal to none of these is not bound
  unbound : (es : List (K × B)) (first other : K) → AllByRecursion (λ y. same first y ≡ false) (keys_of es) → same other first ≡ true → bound_to same es other ≡ None
  unbound [] first other h is = refl
  unbound (e ∷ es) first other h is = rw (law.congr other first e.0 is ∙ h.0) (unbound es first other h.1 is)

  pub removed_are_gone : RemovedKeysAreGone same B
  unfolding IsDistinct
  removed_are_gone [] key other h = nothing (same other key)
  removed_are_gone (e ∷ es) key other h = elim (cases_Bool (same key e.0)) [
    | inl t ↦ rw (t, alike same law key e.0 other t) (gone (same other e.0) refl)
    | inr f ↦ rw f (later (removed_are_gone es key other h.1) (same other e.0) refl f)
  ]
    where
      gone : (x : Bool) → same other e.0 ≡ x → bound_to same es other ≡ cond (same other e.0) None (cond (same other e.0) (Some e.1) (bound_to same es other))
      gone true is = rw is (unbound es e.0 other h.0 is)
      gone false is = rw is refl

      later : bound_to same (unbind same es key) other ≡ cond (same other key) None (bound_to same es other) → (x : Bool) → same other e.0 ≡ x → same key e.0 ≡ false →
          cond (same other e.0) (Some e.1) (bound_to same (unbind same es key) other) ≡ cond (same other key) None (cond (same other e.0) (Some e.1) (bound_to same es other))
      later more true is differ = rw (is, apart same law key e.0 other differ is) refl
      later more false is differ = rw is more
