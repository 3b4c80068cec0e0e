-- The ids under which the callbacks of hooks are held.
use Rattle.std.specs.Prelude.{ℕ, ◌+◌, ◌^◌, ◌==◌, ◌||◌, ◌≡◌, nat_le, max, Bool, true, false, List, filter, map, fold}
use Rattle.std.specs.Prelude.{Option, Some, is_some, slice_get, position, if◌then◌else◌}
use Rattle.minus_term.specs.Refusals.{Refusal, for_memory, for_hook_id, for_free_hook_id}
use Rattle.minus_term.specs.declared.hooks.Hook.{Hook}
use Rattle.minus_term.specs.declared.hooks.Hook.TheVariants.{PostPagerExit}
use Rattle.minus_term.specs.contracts.hooks.HookPartialEq.TheImpl.{ghosts as hook_equality}
use Rattle.minus_state.specs.declared.hooks.HookId.{HookId}
use Rattle.minus_state.specs.contracts.hooks.HookIdPartialEq.TheImpl.{ghosts as id_equality}

-- whether two hooks are the same
abbrev pub same_hook : Hook → Hook → Bool
same_hook = hook_equality.eq

-- whether two are one id of one hook
abbrev pub same_id : HookId → HookId → Bool
same_id = id_equality.eq

-- an id of a hook
abbrev pub id_of : Hook → (id : ℕ) → HookId
id_of hook id = record { hook = hook; id = id }

-- where an id of a hook stands among those that are held
abbrev pub place_of : List HookId → Hook → (id : ℕ) → Option ℕ
place_of held hook id = position (same_id (id_of hook id)) held

-- whether this id of the hook is among those that are held
abbrev pub is_held : List HookId → Hook → (id : ℕ) → Bool
is_held held hook id = is_some (place_of held hook id)

-- the ids that a hook holds, in the order in which they were added
abbrev pub ids_of : List HookId → Hook → List ℕ
ids_of held hook = map (λ entry. entry.id) (filter (λ entry. same_hook hook entry.hook) held)

-- the greatest of some ids, or 0
abbrev pub greatest : List ℕ → ℕ
greatest ids = fold max 0 ids

-- the next free id of a hook: one more than the greatest one that it holds, and at least 2
abbrev pub next_free : List HookId → Hook → ℕ
next_free held hook = max 2 (greatest (ids_of held hook) + 1)

-- the pager keeps id 1 of the last hook for itself
abbrev pub is_reserved : Hook → (id : ℕ) → Bool
is_reserved PostPagerExit id = id == 1
is_reserved hook id = false

-- whether an id that is asked for is taken: it is held or reserved; 0 asks for the next free one, and never is
abbrev pub is_taken : List HookId → Hook → (id : ℕ) → Bool
is_taken held hook id = if id == 0 then false else (is_reserved hook id || is_held held hook id)

-- whether the next free id is asked for, and is no number of 64 bits
abbrev pub has_no_next : List HookId → Hook → (id : ℕ) → Bool
has_no_next held hook id = if id == 0 then nat_le (2 ^ 64) (next_free held hook) else false

-- the id that is given where this one is asked for
abbrev pub given : List HookId → Hook → (id : ℕ) → ℕ
given held hook id = if id == 0 then next_free held hook else id

-- why no id is given: it is taken, or there is no next free one
abbrev pub IsUngiven : Refusal → List HookId → Hook → (id : ℕ) → Type 0
IsUngiven (for_hook_id of number) held hook id = (of ≡ hook) × (number ≡ id) × (is_taken held hook id ≡ true)
IsUngiven for_free_hook_id held hook id = has_no_next held hook id ≡ true
IsUngiven refusal held hook id = ⊥

-- why a callback was not added: no id is given; or one is, and there was no memory
abbrev pub IsUnadded : Refusal → List HookId → Hook → (id : ℕ) → Type 0
IsUnadded for_memory held hook id = (is_taken held hook id ≡ false) × (has_no_next held hook id ≡ false)
IsUnadded refusal held hook id = IsUngiven refusal held hook id

-- of some callbacks, each under the id at its place, those that are not of a hook are as they were
abbrev pub AreOthersKept : {C : Type 0} → Hook → List HookId → (old new : List C) → Type 0
AreOthersKept hook ids old new =
    (i : ℕ) (entry : HookId) → slice_get ids i ≡ Some entry → same_hook entry.hook hook ≡ false
    → slice_get new i ≡ slice_get old i
