-- What is registered, where there is room for it.
use Rattle.std.proofs.Common.{◌≡◌, ℕ, ◌+◌, ◌≤◌, List, true, false, Option, None, Some, Result, Ok, Err, IfErr, OnOk, refl, sym, ap, subst, ◌∙◌, arith}
use Rattle.std.specs.Result.{IsOk, IsErrOf}
use Rattle.minus_term.specs.Refusals.{refusal_of}
use Rattle.minus_term.specs.declared.hooks.Hook.{Hook}
use Rattle.minus_term.specs.declared.error.MinusError.{MinusError}
use Rattle.minus_term.specs.declared.error.MinusError.TheVariants as errors
use Rattle.minus_state.specs.declared.hooks.HookId.{HookId}
use Rattle.minus_state.specs.HookIds.{is_taken}
use Rattle.minus_commands.specs.declared.parts.PartsOf.{PartsOf}
use Rattle.minus_commands.specs.Registration.{Handing, Kept, a_classifier, a_condition, an_exit_callback, a_callback, no_callback, a_strategy, a_run_no_overflow, kept_after, ids_after, IsFree, IsUnhanded, HasNoNext}
use Rattle.minus_commands.specs.Room.{HasRoomFor}

-- the ids that are kept are those by what is registered
pub ids_kept : {Q K : Type 0} (kept : Kept) (handing : Option (Handing Q K)) → (kept_after kept handing).ids ≡ ids_after kept.ids handing
ids_kept kept None = refl
ids_kept kept (Some (a_classifier k)) = refl
ids_kept kept (Some (a_condition q)) = refl
ids_kept kept (Some an_exit_callback) = refl
ids_kept kept (Some (a_callback hook id)) = refl
ids_kept kept (Some (no_callback hook id)) = refl
ids_kept kept (Some (a_strategy strategy)) = refl
ids_kept kept (Some (a_run_no_overflow on)) = refl

-- an id that is free is not taken
free_not_taken : {Q K X : Type 0} (ids : List HookId) (handing : Handing Q K) (hook : Hook) (id : ℕ) → IsFree ids handing → handing ≡ a_callback hook id → is_taken ids hook id ≡ true → X
free_not_taken ids handing hook id free is taken =
    let both = subst (λ (h : Handing _ _). IsFree ids h) is free in
    absurd (let wrong : false ≡ true = sym both.0 ∙ taken in cc)

has_next : {Q K X : Type 0} (ids : List HookId) (handing : Handing Q K) → IsFree ids handing → HasNoNext ids handing → X
has_next ids (a_callback hook id) free none = absurd (let wrong : false ≡ true = sym free.1 ∙ none in cc)
has_next ids (a_classifier k) free none = absurd none
has_next ids (a_condition q) free none = absurd none
has_next ids an_exit_callback free none = absurd none
has_next ids (no_callback hook id) free none = absurd none
has_next ids (a_strategy strategy) free none = absurd none
has_next ids (a_run_no_overflow on) free none = absurd none

only_memory : {Q K : Type 0} (e : MinusError) (ids : List HookId) (handing : Handing Q K) → IsFree ids handing → IsUnhanded (refusal_of e) ids handing → e ≡ errors.Memory
only_memory errors.Memory ids handing free h = refl
only_memory (errors.HookIdTaken hook id) ids handing free h = free_not_taken ids handing hook id free h.0 h.1
only_memory errors.NoFreeHookId ids handing free h = has_next ids handing free h
only_memory refusal ids handing free h = absurd h

-- what is free is kept, where there is room
pub is_handed : {Q K : Type 0} (r : Result (Unit {0}) MinusError) (ids : List HookId) (handing : Handing Q K) → IsFree ids handing → IfErr r (λ e. IsUnhanded (refusal_of e) ids handing) → (IsErrOf r errors.Memory → ⊥) → IsOk r
is_handed (Ok x) ids handing free h enough = refl
is_handed (Err e) ids handing free h enough = absurd (enough (ap (λ (x : MinusError). let r : Result (Unit {0}) MinusError = Err x in r) (only_memory e ids handing free h)))

-- room for some is room for fewer
pub room_less : {P H E Q K : Type 0} (parts : PartsOf P H E Q K) (n m : ℕ) → m ≤ n → HasRoomFor parts n → HasRoomFor parts m
room_less parts n m l h =
    let ids = h.hooks.ids in
    let callbacks = h.hooks.callbacks in
    let exits = h.exits in
    record { hooks = record { ids = omega (arith, l, ids); callbacks = omega (arith, l, callbacks) }; exits = omega (arith, l, exits) }

pub one_less : {P H E Q K : Type 0} (parts : PartsOf P H E Q K) (more : ℕ) → HasRoomFor parts (more + 1) → HasRoomFor parts more
one_less parts more h = room_less parts (more + 1) more (omega arith) h

-- what holds where all went well leads to what else does
pub on_ok : {T E A B : Type 0} (r : Result T E) → (A → B) → OnOk r A → OnOk r B
on_ok (Ok x) f h = f h
on_ok (Err e) f h = tt
