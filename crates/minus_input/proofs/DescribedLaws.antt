-- Laws of lists of descriptions.
use Rattle.std.proofs.Common.{◌≡◌, ℕ, zero, suc, ◌<◌, ◌+◌, ◌++◌, ◌∷◌, [], List, length, take, map, Some, get_or, Bor, refl, sym, ap, ◌∙◌, subst, arith}
use Rattle.std.proofs.lemmas.List.{take_more, length-map}
use Rattle.std.proofs.lemmas.Option.{slice_get-get_or}
use Rattle.minus_term.specs.declared.error.DescriptionError.{DescriptionError}
use Rattle.minus_input.specs.EventForm.{same_event}
use Rattle.minus_input.specs.Described.{Describe, IsFirstFault}
use Rattle.minus_input.specs.Register.{Register, unbind}
use Rattle.minus_input.specs.RegisterCalls.{IsRemoved}
use Rattle.minus_input.specs.declared.bound.ActionOf.{ActionOf}
use Rattle.minus_input.specs.declared.event_form.EventWrapper.{EventWrapper}
use Rattle.minus_input.proofs.RegisterLaws.{unbind_all-more}

module _ {K : Type 0} (Describes : List ℕ → K → Type 0) where
  Describe-more : (texts : List (List ℕ)) (keys : List K) (text : List ℕ) (key : K) → Describe Describes texts keys → Describes text key → Describe Describes (texts ++ text ∷ []) (keys ++ key ∷ [])
  Describe-more [] [] text key h is = (is, tt)
  Describe-more [] (k ∷ keys) text key h is = absurd h
  Describe-more (t ∷ texts) [] text key h is = absurd h
  Describe-more (t ∷ texts) (k ∷ keys) text key h is = (h.0, Describe-more texts keys text key h.1 is)

  -- each text that is read describes a key
  pub Describe-at : (texts : List (List ℕ)) (keys : List K) (i : ℕ) (d : List ℕ) → Describe Describes texts keys → i < length texts → (key : K) × Describes (get_or texts i d) key
  Describe-at [] keys i d h lt = let no : ⊥ = omega (arith, lt) in absurd no
  Describe-at (t ∷ texts) [] i d h lt = absurd h
  Describe-at (t ∷ texts) (k ∷ keys) zero d h lt = (k, h.0)
  Describe-at (t ∷ texts) (k ∷ keys) (suc i) d h lt = Describe-at texts keys i d h.1 (omega (arith, lt))

get_or-now : (texts : List (Bor (List ℕ))) (i : ℕ) (d : Bor (List ℕ)) → get_or (map (λ t. t.now) texts) i d.now ≡ (get_or texts i d).now
get_or-now [] i d = refl
get_or-now (t ∷ texts) zero d = refl
get_or-now (t ∷ texts) (suc i) d = get_or-now texts i d

module _ {K : Type 0} (Describes : List ℕ → K → Type 0) (texts : List (Bor (List ℕ))) (i : ℕ) (d : Bor (List ℕ)) (lt : i < length texts) where
  below : i < length (map (λ t. t.now) texts)
  below = omega (arith, lt, length-map texts (λ t. t.now))

  -- one more text is read
  pub describe_step : (keys : List K) (key : K) → Describe Describes (take i (map (λ t. t.now) texts)) keys → Describes (get_or texts i d).now key →
      Describe Describes (take (i + 1) (map (λ t. t.now) texts)) (keys ++ key ∷ [])
  describe_step keys key h is =
      let text : Describes (get_or (map (λ t. t.now) texts) i d.now) key = subst (λ t. Describes t key) (sym (get_or-now texts i d)) is in
      subst (λ l. Describe Describes l (keys ++ key ∷ [])) (sym (take_more (map (λ t. t.now) texts) i d.now below))
      (Describe-more Describes (take i (map (λ t. t.now) texts)) keys (get_or (map (λ t. t.now) texts) i d.now) key h text)

  -- the first that is not
  pub first_fault : (Fault : List ℕ → DescriptionError → Type 0) (keys : List K) (error : DescriptionError) → Describe Describes (take i (map (λ t. t.now) texts)) keys → Fault (get_or texts i d).now error →
      IsFirstFault Describes Fault (map (λ t. t.now) texts) i error
  first_fault Fault keys error h is = record {
    before = keys;
    described = h;
    text = (get_or texts i d).now;
    stands = slice_get-get_or (map (λ t. t.now) texts) i d.now below ∙ ap Some (get_or-now texts i d);
    fault = is;
  }

  -- a text of those that are read
  pub described_at : (keys : List K) → Describe Describes (map (λ t. t.now) texts) keys → (key : K) × Describes (get_or texts i d).now key
  described_at keys h =
      let at = Describe-at Describes (map (λ t. t.now) texts) keys i d.now h below in
      (at.0, subst (λ t. Describes t at.0) (get_or-now texts i d) at.1)

-- one more text is read, and its key is removed
pub remove_step : (Describes : List ℕ → EventWrapper → Type 0) (texts : List (Bor (List ℕ))) (i : ℕ) (d : Bor (List ℕ)) (lt : i < length texts) {C : Type 0} (old before after : Register EventWrapper (ActionOf C)) (key : EventWrapper) →
    IsRemoved Describes (take i (map (λ t. t.now) texts)) old before → Describes (get_or texts i d).now key → after ≡ record before { bindings = unbind same_event before.bindings key } →
    IsRemoved Describes (take (i + 1) (map (λ t. t.now) texts)) old after
remove_step Describes texts i d lt {C} old before after key so is removed = record {
  keys = so.keys ++ key ∷ [];
  described = describe_step Describes texts i d lt so.keys key so.described is;
  removed =
      removed ∙ ap (λ (r : Register EventWrapper (ActionOf C)). let s : Register EventWrapper (ActionOf C) = record { bindings = unbind same_event r.bindings key; wild = r.wild } in s) so.removed
      ∙ ap (λ l. let s : Register EventWrapper (ActionOf C) = record { bindings = l; wild = old.wild } in s) (sym (unbind_all-more same_event old.bindings so.keys key));
}
