-- Steps and runs of sessions on their sinks.
use Rattle.std.specs.Prelude.{◌≡◌, ℕ, List, [], ◌∷◌, ◌++◌, Bool, true, false, Option, None, Some, reverse, string_bytes}
use Rattle.std.specs.Prelude.{◌⊎◌}
use Rattle.std.specs.Option.{option_map}
use Rattle.minus_term.specs.Counts.{SinkSeen, Stays, Rises}
use Rattle.minus_term.specs.Refusals.{Refusal, for_memory, refusal_of}
use Rattle.minus_term.specs.declared.error.MinusError.{MinusError}
use Rattle.minus_term.specs.declared.error.MinusError.TheVariants.{Memory}
use Rattle.minus.specs.Says.{Says}
use Rattle.minus.specs.declared.answer.Answer.{Answer}
use Rattle.minus_commands.specs.declared.commands.InputOf.{InputOf}
use Rattle.minus.specs.declared.run.Progress.{Progress}
use Rattle.minus.specs.declared.run.RanOf.{RanOf}
use Rattle.minus.specs.declared.session.Core.{Core}
use Rattle.minus.specs.declared.done.Done.{Done}
use Rattle.minus.specs.declared.done.Done.TheVariants.{On, Exit}
use Rattle.minus.specs.Asked.{Asks, clears_prefix}
use Rattle.minus.specs.Waiting.{checked_as}
use Rattle.minus.specs.Core.{seen_of}
use Rattle.minus_commands.specs.Reads.{Told, told_of}
use Rattle.minus.specs.Runs.{IsRun, StopsAtSink}
use Rattle.minus_commands.specs.Table.{Wanted, IsPossible, IsFault}
use Rattle.minus.specs.Steps.{Ending, goes_on, has_exited, IsStep, is_passed, Took}
use Rattle.minus.specs.RefusedSteps.{Refuses, IsSinkFault, Fails}
use Rattle.minus.specs.Steps.{TookWith}
use Rattle.minus.specs.RefusedSteps.{FailsWith}

-- a step that ends well: the sink refused nothing
pub record IsStepOf {S P H E Q K : Type 0} (sink : S → SinkSeen) (says : Says Q K) (old : Core S P H E Q K)
    (told : Told Q K) (new : Core S P H E Q K) (answer : Answer) : Type 0 where
  pub step : IsStep says (seen_of old) told (seen_of new) answer (sink old.sink).bytes (sink new.sink).bytes
  pub stays : Stays (sink old.sink).refusals (sink new.sink).refusals

-- what was told asks for this, and the typed prefix goes, or stays
pub record IsAsked {S P H E Q K : Type 0} (says : Says Q K) (core : Core S P H E Q K) (told : Told Q K)
    (wanted : Wanted Q K) (clears : Bool) : Type 0 where
  pub asks : Asks says (seen_of core) told wanted
  pub prefix : clears_prefix told wanted ≡ clears

-- how an input ended that was taken
abbrev pub ending_of : Done → Ending
ending_of (On text) = goes_on (option_map string_bytes text)
ending_of (Exit strategy code) = has_exited (strategy, code)

-- one input was taken, and the sink refused nothing
pub record IsTakenOf {S P H E Q K : Type 0} (sink : S → SinkSeen) (says : Says Q K) (old : Core S P H E Q K)
    (told : Told Q K) (new : Core S P H E Q K) (of : Done) : Type 0 where
  pub took : Took says (ending_of of) (seen_of old) told (seen_of new) (sink old.sink).bytes (sink new.sink).bytes
  pub stays : Stays (sink old.sink).refusals (sink new.sink).refusals

-- one input was not taken: the sink refused where that is said, and was left alone where it is not
pub record IsUntakenOf {S P H E Q K : Type 0} (sink : S → SinkSeen) (says : Says Q K) (old : Core S P H E Q K)
    (told : Told Q K) (new : Core S P H E Q K) (e : MinusError) : Type 0 where
  pub fails : Fails says (refusal_of e) (seen_of old) told (seen_of new) (sink old.sink).bytes (sink new.sink).bytes
  pub rises : IsSinkFault (refusal_of e) → Rises (sink old.sink).refusals (sink new.sink).refusals
  pub untouched : (IsSinkFault (refusal_of e) → ⊥) → new.sink ≡ old.sink

-- an input that waited was taken, and with it, it may be, some of those behind it, and the sink refused nothing
pub record IsTakenWithOf {S P H E Q K : Type 0} (sink : S → SinkSeen) (says : Says Q K) (old : Core S P H E Q K)
    (told : Told Q K) (new : Core S P H E Q K) (of : Done) : Type 0 where
  pub took : TookWith says (ending_of of) (seen_of old) told (seen_of new) (sink old.sink).bytes (sink new.sink).bytes
  pub stays : Stays (sink old.sink).refusals (sink new.sink).refusals

-- it was not taken: the sink refused where that is said, and was left alone where it is not
pub record IsUntakenWithOf {S P H E Q K : Type 0} (sink : S → SinkSeen) (says : Says Q K) (old : Core S P H E Q K)
    (told : Told Q K) (new : Core S P H E Q K) (e : MinusError) : Type 0 where
  pub fails : FailsWith says (refusal_of e) (seen_of old) told (seen_of new) (sink old.sink).bytes (sink new.sink).bytes
  pub rises : IsSinkFault (refusal_of e) → Rises (sink old.sink).refusals (sink new.sink).refusals
  pub untouched : (IsSinkFault (refusal_of e) → ⊥) → new.sink ≡ old.sink

-- an input waits, and nothing else has changed
pub record IsKept {S P H E Q K : Type 0} (old : Core S P H E Q K) (told : Told Q K) (new : Core S P H E Q K)
    (of : Done) : Type 0 where
  pub possible : (wanted : Wanted Q K) → checked_as told ≡ Some wanted → IsPossible wanted
  pub seen : seen_of new ≡ record (seen_of old) { waiting = (seen_of old).waiting ++ told ∷ [] }
  pub sink : new.sink ≡ old.sink
  pub goes_on : of ≡ On None

-- why an input does not wait: out of memory, or for what cannot be done
abbrev pub IsUnkept : {Q K : Type 0} → Refusal → Told Q K → Type 0
IsUnkept refusal told =
    (refusal ≡ for_memory) ⊎ ((wanted : Wanted _ _) → checked_as told ≡ Some wanted → IsFault refusal wanted)

-- it does not, and nothing has changed
pub record IsNotKept {S P H E Q K : Type 0} (old : Core S P H E Q K) (told : Told Q K) (new : Core S P H E Q K)
    (e : MinusError) : Type 0 where
  pub why : IsUnkept (refusal_of e) told
  pub seen : seen_of new ≡ seen_of old
  pub sink : new.sink ≡ old.sink

-- a step that is refused: what it leaves, and that the sink refused where that is said; where it is not, it refused
-- nothing, and was left alone unless something was performed
pub record IsRefusedStepOf {S P H E Q K : Type 0} (sink : S → SinkSeen) (says : Says Q K) (old : Core S P H E Q K)
    (told : Told Q K) (new : Core S P H E Q K) (e : MinusError) : Type 0 where
  pub refuses : Refuses says (refusal_of e) (seen_of old) told (seen_of new) (sink old.sink).bytes (sink new.sink).bytes
  pub rises : IsSinkFault (refusal_of e) → Rises (sink old.sink).refusals (sink new.sink).refusals
  pub stays : (IsSinkFault (refusal_of e) → ⊥) → Stays (sink old.sink).refusals (sink new.sink).refusals
  pub untouched : (IsSinkFault (refusal_of e) → ⊥) → seen_of new ≡ seen_of old → new.sink ≡ old.sink

-- a run: the sink refused where it stopped at the sink, and nowhere else
pub record IsRunOf {S P H E Q K : Type 0} (sink : S → SinkSeen) (says : Says Q K) (old new : Core S P H E Q K)
    (inputs : List (InputOf P H E Q K)) (done : ℕ)
    (last : Option Answer) (stopped : Option MinusError) (rest : List (InputOf P H E Q K)) : Type 0 where
  pub run : IsRun says told_of (seen_of old) (seen_of new) inputs done last stopped rest (sink old.sink).bytes
      (sink new.sink).bytes
  pub stays : (StopsAtSink stopped → ⊥) → Stays (sink old.sink).refusals (sink new.sink).refusals
  pub rises : StopsAtSink stopped → Rises (sink old.sink).refusals (sink new.sink).refusals

-- a run of these inputs ends with this answer
abbrev pub RunsTo : {S P H E Q K : Type 0} → (S → SinkSeen) → Says Q K → (old new : Core S P H E Q K)
    → List (InputOf P H E Q K) → RanOf P H E Q K → Type 0
RunsTo sink says old new inputs ran = IsRunOf sink says old new inputs ran.done ran.last ran.stopped ran.rest.items

-- a run of inputs that are taken from the end of a list comes this far
abbrev pub RunsFromEndTo :
    {S P H E Q K : Type 0} → (S → SinkSeen) → Says Q K → (old new : Core S P H E Q K)
    → (left rest : List (InputOf P H E Q K)) → Progress → Type 0
RunsFromEndTo sink says old new left rest ran =
    IsRunOf sink says old new (reverse left) ran.done ran.last ran.stopped (reverse rest)

-- why the refusal of an input that waited is not kept, and this is answered in its place: it is no refusal of
-- what is skipped, or there is no memory for it
abbrev pub IsNotPassed : MinusError → (refusal : MinusError) → Type 0
IsNotPassed e refusal =
    ((e ≡ refusal) × (is_passed (refusal_of refusal) ≡ false))
    ⊎ ((e ≡ Memory) × (is_passed (refusal_of refusal) ≡ true))
