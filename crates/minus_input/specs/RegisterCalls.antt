-- What the calls of a register add and remove, and when they are refused.
use Rattle.std.specs.Prelude.{ℕ, ◌≡◌, ⊤, Bool, false, List, None, Some}
use Rattle.minus_term.specs.Refusals.{Refusal, for_memory, for_description, for_binding}
use Rattle.minus_input.specs.declared.bound.ActionOf.{ActionOf}
use Rattle.minus_input.specs.declared.event_form.EventWrapper.{EventWrapper}
use Rattle.minus_input.specs.Described.{Describing, Faulting, Describe, IsFirstFault}
use Rattle.minus_input.specs.EventForm.{same_event}
use Rattle.minus_input.specs.EventTables.{called}
use Rattle.minus_input.specs.Register.{Register, Binding, bind_all, unbind_all, first_bound}

-- some keys are bound to one thing
abbrev pub with_keys : {C : Type 0} → Register EventWrapper (ActionOf C) → List EventWrapper → Binding (ActionOf C)
    → Register EventWrapper (ActionOf C)
with_keys register keys binding = record register { bindings = bind_all same_event register.bindings keys binding }

-- keys are added: all texts describe one, none of these is bound where keys may not be bound
-- again, and each is bound to the callback now
pub record IsAdded (Describes : Describing) (texts : List (List ℕ)) (remap : Bool) {C : Type 0}
    (callback : C) (description : List ℕ) (old new : Register EventWrapper (ActionOf C)) : Type 0 where
  pub keys : List EventWrapper
  pub described : Describe Describes texts keys
  pub unbound : remap ≡ false → first_bound same_event old.bindings keys ≡ None
  pub bound : new ≡ with_keys old keys (called callback description)

-- keys are removed: all texts describe one, and none of these is bound now
pub record IsRemoved (Describes : Describing) (texts : List (List ℕ)) {C : Type 0}
    (old new : Register EventWrapper (ActionOf C)) : Type 0 where
  pub keys : List EventWrapper
  pub described : Describe Describes texts keys
  pub removed : new ≡ record old { bindings = unbind_all same_event old.bindings keys }

-- when keys are not removed: the text of this place is the first that describes nothing
abbrev pub IsRemoveRefused : Describing → Faulting → List (List ℕ) → Refusal → Type 0
IsRemoveRefused Describes Fault texts (for_description place error) = IsFirstFault Describes Fault texts place error
IsRemoveRefused Describes Fault texts refusal = ⊥

-- when a list of texts is not read: for that, or memory ran out
abbrev pub IsUnread : Describing → Faulting → List (List ℕ) → Refusal → Type 0
IsUnread Describes Fault texts for_memory = ⊤
IsUnread Describes Fault texts refusal = IsRemoveRefused Describes Fault texts refusal

-- when keys are not added: for that, or all texts describe a key, keys may not be bound again, and the key of this
-- place is the first that was bound before the call
abbrev pub IsAddRefused : Describing → Faulting → List (List ℕ) → Bool → {C : Type 0}
    → Register EventWrapper (ActionOf C) → Refusal → Type 0
IsAddRefused Describes Fault texts remap old (for_binding place) =
    (remap ≡ false) × (keys : List EventWrapper) × Describe Describes texts keys
    × (first_bound same_event old.bindings keys ≡ Some place)
IsAddRefused Describes Fault texts remap old refusal = IsUnread Describes Fault texts refusal
