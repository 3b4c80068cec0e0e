-- Runs: steps one after another, and how they stop.
use Rattle.std.specs.Prelude.{◌≡◌, ℕ, Bool, true, false, List, [], ◌∷◌, ◌++◌, length, map, Option, None, Some}
use Rattle.std.specs.List.{last_or}
use Rattle.minus_term.specs.declared.error.MinusError.{MinusError}
use Rattle.minus_term.specs.Refusals.{refusal_of}
use Rattle.minus.specs.declared.answer.Answer.{Answer}
use Rattle.minus.specs.declared.status.Status.TheVariants as status
use Rattle.minus.specs.Says.{Says}
use Rattle.minus_state.specs.Control.{Control}
use Rattle.minus_commands.specs.Reads.{Told}
use Rattle.minus.specs.Seen.{Seen}
use Rattle.minus.specs.Steps.{Steps}
use Rattle.minus.specs.RefusedSteps.{Refuses, IsSinkFault}
use Rattle.minus.specs.Answers.{ends_run}
use Rattle.minus_draw.specs.Drawn.{Leaves}

-- how a run stopped: at the end of its inputs or after a step, or at an input that was refused
abbrev pub Stops : {A Q K : Type 0} → Says Q K → (A → Told Q K) → Option MinusError → List A → Seen Q K → Seen Q K
    → Option (List ℕ) → Option (List ℕ) → Type 0
Stops says told None [] reached new bytes new_bytes = (new ≡ reached) × (new_bytes ≡ bytes)
Stops says told (Some e) (x ∷ []) reached new bytes new_bytes =
    Refuses says (refusal_of e) reached (told x) new bytes new_bytes
Stops says told stopped refused reached new bytes new_bytes = ⊥

-- after a step that ends a run no input is refused; after any other one is, or there is none
abbrev pub StopsSo : {A : Type 0} → Bool → Option MinusError → List A → Type 0
StopsSo true stopped rest = stopped ≡ None
StopsSo false stopped rest = stopped ≡ None → rest ≡ []

-- a run stops after a step that ends it, and after no other
abbrev pub StopsAfter : {A : Type 0} → List Answer → Option MinusError → List A → Type 0
StopsAfter [] stopped rest = StopsSo false stopped rest
StopsAfter (answer ∷ []) stopped rest = StopsSo (ends_run answer) stopped rest
StopsAfter (answer ∷ next ∷ answers) stopped rest = (ends_run answer ≡ false) × StopsAfter (next ∷ answers) stopped rest

-- a run: the inputs that were done, in order, the one that was refused, if any, and the rest; the steps of those done,
-- the controls that they passed, their answers and what they reached; and, where the sink's bytes ended with a list of
-- operations that takes every screen to the page, they still do as long as the session runs
pub record IsRun {A Q K : Type 0} (says : Says Q K) (told : A → Told Q K) (old new : Seen Q K) (inputs : List A)
    (done : ℕ) (last : Option Answer)
    (stopped : Option MinusError) (rest : List A) (old_bytes new_bytes : Option (List ℕ)) : Type 0 where
  pub taken : List A
  pub refused : List A
  pub passed : List Control
  pub answers : List Answer
  pub reached : Seen Q K
  pub bytes : Option (List ℕ)
  pub all : inputs ≡ taken ++ (refused ++ rest)
  pub count : done ≡ length taken
  pub steps : Steps says old (map told taken) passed answers reached old_bytes bytes
  pub stop : Stops says told stopped refused reached new bytes new_bytes
  pub stops : StopsAfter answers stopped rest
  pub answer : last ≡ last_or None answers
  pub leaves : (before : List Control) → Leaves old_bytes before old.control → new.status ≡ status.Running
      → Leaves new_bytes (before ++ passed) new.control

-- a run stopped where the sink refused
abbrev pub StopsAtSink : Option MinusError → Type 0
StopsAtSink None = ⊥
StopsAtSink (Some e) = IsSinkFault (refusal_of e)
