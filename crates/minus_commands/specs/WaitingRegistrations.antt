-- What commands that wait register, read in one after another.
use Rattle.std.specs.Prelude.{List, [], ◌∷◌, Option}
use Rattle.minus_state.specs.declared.hooks.HookId.{HookId}
use Rattle.minus_commands.specs.Registration.{Kept, kept_after, ids_after, classifier_after, condition_after, IsFreeFor}
use Rattle.minus_commands.specs.Table.{Wanted, handed, IsPossible}

-- the first classifier: the last one that was set by a command that waited, or else the one of the start
abbrev pub classifier_taken : {Q K : Type 0} → K → List (Wanted Q K) → K
classifier_taken classifier [] = classifier
classifier_taken classifier (w ∷ ws) = classifier_taken (classifier_after classifier (handed w)) ws

-- the first condition: the last one that was set by a command that waited, or else the default
abbrev pub condition_taken : {Q K : Type 0} → Option Q → List (Wanted Q K) → Option Q
condition_taken kept [] = kept
condition_taken kept (w ∷ ws) = condition_taken (condition_after kept (handed w)) ws

-- what is kept after these commands were read in, one after another
abbrev pub kept_taken : {Q K : Type 0} → Kept → List (Wanted Q K) → Kept
kept_taken kept [] = kept
kept_taken kept (w ∷ ws) = kept_taken (kept_after kept (handed w)) ws

-- these commands can be read in one after another, the first of them beside these ids of hooks
abbrev pub CanTakeAll : {Q K : Type 0} → List HookId → List (Wanted Q K) → Type 0
CanTakeAll ids [] = Unit {0}
CanTakeAll ids (w ∷ ws) = IsPossible w × IsFreeFor ids (handed w) × CanTakeAll (ids_after ids (handed w)) ws
