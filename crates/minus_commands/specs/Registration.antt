-- What is registered, and what is set for the exit.
use Rattle.std.specs.Prelude.{ℕ, ◌+◌, ◌≡◌, List, [], ◌∷◌, ◌++◌, Bool, true, false, Option, None, Some, if◌then◌else◌}
use Rattle.minus_term.specs.Refusals.{Refusal, for_memory, for_hook_id, for_free_hook_id}
use Rattle.minus_term.specs.declared.hooks.Hook.{Hook}
use Rattle.minus_state.specs.declared.hooks.HookId.{HookId}
use Rattle.minus_state.specs.declared.state.ExitStrategy.{ExitStrategy}
use Rattle.minus_state.specs.declared.state.ExitStrategy.TheVariants.{ProcessQuit, PagerQuit}
use Rattle.minus_state.specs.HookIds.{id_of, place_of, given, is_reserved, is_taken, has_no_next}
use Rattle.minus_state.specs.Hooks.{without_place}

-- what is registered, as values alone: a classifier or a condition of the kind that a session keeps; one more callback
-- of an exit; a callback of a hook, under an id that is asked for; that the one under an id goes; how the program is to
-- go on after an exit; and whether a text that fits the page is paged anyway
pub data Handing (Q K : Type 0) : Type 0 where
  a_classifier : K → Handing Q K
  a_condition : Q → Handing Q K
  an_exit_callback : Handing Q K
  a_callback : Hook → (id : ℕ) → Handing Q K
  no_callback : Hook → (id : ℕ) → Handing Q K
  a_strategy : ExitStrategy → Handing Q K
  a_run_no_overflow : Bool → Handing Q K

-- an exit: how the program is to go on, and the code that it ends with if it is to end
abbrev pub Exit : Type 0
Exit = ExitStrategy × ℕ

-- what is kept beside the state, the classifier and the condition: the ids of the hooks'
-- callbacks, in the order in which they were added, the number of callbacks of an exit, the exit,
-- and whether a text that fits the page is paged anyway
pub record Kept : Type 0 where
  pub ids : List HookId
  pub exit_callbacks : ℕ
  pub exit : Exit
  pub run_no_overflow : Bool

-- what is kept where nothing was registered
abbrev pub kept_at_first : Kept
kept_at_first = record { ids = []; exit_callbacks = 0; exit = (ProcessQuit, 0); run_no_overflow = false }

-- the exit by a strategy that was set
abbrev pub exit_by : ExitStrategy → Exit
exit_by ProcessQuit = (ProcessQuit, 1)
exit_by PagerQuit = (PagerQuit, 0)

-- the exit once the callback under an id went: the pager's own is the one that ends the process
abbrev pub exit_without : Hook → (id : ℕ) → Exit → Exit
exit_without hook id exit = if is_reserved hook id then (PagerQuit, 0) else exit

-- the ids after a callback of a hook was added under the id that is asked for
abbrev pub with_id : List HookId → Hook → (id : ℕ) → List HookId
with_id ids hook id = ids ++ id_of hook (given ids hook id) ∷ []

-- the ids after the one with this number of the hook was removed, if it was held
abbrev pub without_id : List HookId → Hook → (id : ℕ) → List HookId
without_id ids hook id = without_place ids (place_of ids hook id)

-- the ids of the hooks' callbacks once this was registered
abbrev pub ids_with : {Q K : Type 0} → List HookId → Handing Q K → List HookId
ids_with ids (a_callback hook id) = with_id ids hook id
ids_with ids (no_callback hook id) = without_id ids hook id
ids_with ids handing = ids

-- what is kept once this was registered
abbrev pub kept_with : {Q K : Type 0} → Kept → Handing Q K → Kept
kept_with kept (a_classifier k) = kept
kept_with kept (a_condition q) = kept
kept_with kept an_exit_callback = record kept { exit_callbacks = kept.exit_callbacks + 1 }
kept_with kept (a_callback hook id) = record kept { ids = with_id kept.ids hook id }
kept_with kept (no_callback hook id) =
    record kept { ids = without_id kept.ids hook id; exit = exit_without hook id kept.exit }
kept_with kept (a_strategy strategy) = record kept { exit = exit_by strategy }
kept_with kept (a_run_no_overflow on) = record kept { run_no_overflow = on }

-- the classifier that is kept then
abbrev pub classifier_with : {Q K : Type 0} → K → Handing Q K → K
classifier_with kept (a_classifier k) = k
classifier_with kept handing = kept

-- the condition that is kept then, if one is
abbrev pub condition_with : {Q K : Type 0} → Option Q → Handing Q K → Option Q
condition_with kept (a_condition q) = Some q
condition_with kept handing = kept

-- what is kept after a command, by what it registers, if it registers something
abbrev pub kept_after : {Q K : Type 0} → Kept → Option (Handing Q K) → Kept
kept_after kept None = kept
kept_after kept (Some handing) = kept_with kept handing

-- the ids of the hooks' callbacks after a command, by what it registers, if it registers something
abbrev pub ids_after : {Q K : Type 0} → List HookId → Option (Handing Q K) → List HookId
ids_after ids None = ids
ids_after ids (Some handing) = ids_with ids handing

-- the classifier that is kept after a command, by what it registers, if it registers something
abbrev pub classifier_after : {Q K : Type 0} → K → Option (Handing Q K) → K
classifier_after kept None = kept
classifier_after kept (Some handing) = classifier_with kept handing

-- the condition that is kept after a command, if one is, by what it registers, if it registers something
abbrev pub condition_after : {Q K : Type 0} → Option Q → Option (Handing Q K) → Option Q
condition_after kept None = kept
condition_after kept (Some handing) = condition_with kept handing

-- it can be kept: the id of a hook that is asked for is free, and the next free one is a number
abbrev pub IsFree : {Q K : Type 0} → List HookId → Handing Q K → Type 0
IsFree ids (a_callback hook id) = (is_taken ids hook id ≡ false) × (has_no_next ids hook id ≡ false)
IsFree ids handing = Unit {0}

-- what a command registers can be kept, if it registers something: see `IsFree`
abbrev pub IsFreeFor : {Q K : Type 0} → List HookId → Option (Handing Q K) → Type 0
IsFreeFor ids None = Unit {0}
IsFreeFor ids (Some handing) = IsFree ids handing

-- what is registered is a callback under the next free id of its hook, and that id is no number of 64 bits
abbrev pub HasNoNext : {Q K : Type 0} → List HookId → Handing Q K → Type 0
HasNoNext ids (a_callback hook id) = has_no_next ids hook id ≡ true
HasNoNext ids handing = ⊥

-- why what is registered is not kept: out of memory, for an id that is taken, or since there is no next free id
abbrev pub IsUnhanded : {Q K : Type 0} → Refusal → List HookId → Handing Q K → Type 0
IsUnhanded for_memory ids handing = Unit {0}
IsUnhanded (for_hook_id hook id) ids handing = (handing ≡ a_callback hook id) × (is_taken ids hook id ≡ true)
IsUnhanded for_free_hook_id ids handing = HasNoNext ids handing
IsUnhanded refusal ids handing = ⊥
