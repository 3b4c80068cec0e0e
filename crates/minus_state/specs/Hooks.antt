-- What a list of hooks' callbacks holds.
use Rattle.std.specs.Prelude.{◌≡◌, ℕ, ◌+◌, ◌≤◌, vec_len, vec_capacity, List, [], ◌∷◌, ◌++◌, Option, None, Some}
use Rattle.std.specs.List.{remove}
use Rattle.minus_term.specs.declared.hooks.Hook.{Hook}
use Rattle.minus_state.specs.declared.hooks.HookId.{HookId}
use Rattle.minus_state.specs.declared.hooks.HookList.{HookList}
use Rattle.minus_state.specs.HookIds.{id_of, place_of, given, AreOthersKept}

-- the ids, each with its hook, and the callbacks, both in the order in which they were added
pub record Held (C : Type 0) : Type 0 where
  pub ids : List HookId
  pub callbacks : List C

-- what a list of hooks' callbacks holds, as values alone
abbrev pub held_by : {C : Type 0} → HookList C → Held C
held_by hooks = record { ids = hooks.ids.items; callbacks = hooks.callbacks.items }

-- no id and no callback is held
abbrev pub none_held : {C : Type 0} → Held C
none_held = record { ids = []; callbacks = [] }

-- one more is held, behind all others, under this id
abbrev pub with_callback : {C : Type 0} → Held C → HookId → C → Held C
with_callback held entry callback = record { ids = held.ids ++ entry ∷ []; callbacks = held.callbacks ++ callback ∷ [] }

-- `more` callbacks can be added without allocation
pub record HasRoom {C : Type 0} (hooks : HookList C) (more : ℕ) : Type 0 where
  pub ids : vec_len hooks.ids + more ≤ vec_capacity hooks.ids
  pub callbacks : vec_len hooks.callbacks + more ≤ vec_capacity hooks.callbacks

-- a callback is added under the id that is given
abbrev pub added : {C : Type 0} → Held C → Hook → (id : ℕ) → C → Held C
added held hook id callback = with_callback held (id_of hook (given held.ids hook id)) callback

-- a list without the element at a place, if there is one
abbrev pub without_place : {A : Type 0} → List A → Option ℕ → List A
without_place xs None = xs
without_place xs (Some place) = remove xs place

-- an id goes, with the callback that was added under it, and the others close up
abbrev pub removed : {C : Type 0} → Held C → Hook → (id : ℕ) → Held C
removed held hook id = record {
  ids = without_place held.ids (place_of held.ids hook id);
  callbacks = without_place held.callbacks (place_of held.ids hook id);
}

-- the callbacks of one hook were called, and no others: these are as they were, and so are the ids
pub record CallsAlone {C : Type 0} (hook : Hook) (old new : Held C) : Type 0 where
  pub ids : new.ids ≡ old.ids
  pub others : AreOthersKept hook old.ids old.callbacks new.callbacks

-- those of a hook, if one is due; else none
abbrev pub CallsFor : {C : Type 0} → Option Hook → (old new : Held C) → Type 0
CallsFor None old new = new ≡ old
CallsFor (Some hook) old new = CallsAlone hook old new
