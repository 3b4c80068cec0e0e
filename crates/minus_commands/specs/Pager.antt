-- What a pager queues before its start.
use Rattle.std.specs.Prelude.{◌≡◌, ℕ, List, [], ◌∷◌, ◌++◌, true}
use Rattle.minus_term.specs.Refusals.{Refusal, for_memory, for_newline}
use Rattle.minus_state.specs.ShownPrompt.{has_newline}
use Rattle.minus_commands.specs.declared.commands.CommandOf.{CommandOf}
use Rattle.minus_commands.specs.Reads.{wanted_of}
use Rattle.minus_commands.specs.Table.{Wanted}

-- why the prompt row is not let say a text: for a newline, or out of memory
abbrev pub IsUnsaid : Refusal → List ℕ → Type 0
IsUnsaid for_newline text = has_newline text ≡ true
IsUnsaid for_memory text = has_newline text ≡ true → ⊥
IsUnsaid refusal text = ⊥

-- behind what waited, which stays, one command more waits, and it asks for this
abbrev pub WaitsBehind : {P H E Q K : Type 0} → (waited waiting : List (CommandOf P H E Q K)) → Wanted Q K → Type 0
WaitsBehind {P} {H} {E} {Q} {K} waited waiting wanted =
    (c : CommandOf P H E Q K) × (wanted_of c ≡ wanted) × (waiting ≡ waited ++ c ∷ [])
