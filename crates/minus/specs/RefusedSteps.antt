-- What a refused step leaves.
use Rattle.std.specs.Prelude.{◌≡◌, ℕ, List, [], ◌∷◌, Option, ◌⊎◌}
use Rattle.minus_term.specs.Refusals.{Refusal, for_query, at_cleanup, at_drawing}
use Rattle.minus_term.specs.Terminal.{CleanupBreaksOff}
use Rattle.minus_term.specs.declared.error.CleanupError.{CleanupError}
use Rattle.minus.specs.Says.{Says}
use Rattle.minus.specs.declared.status.Status.TheVariants as status
use Rattle.minus.specs.Asked.{taken}
use Rattle.minus.specs.Classes.{Class, class_of, memory, unfit, over, cleanup, drawing, never}
use Rattle.minus_draw.specs.Drawn.{Drawn, BrokenOff, Work}
use Rattle.minus_commands.specs.Reads.{Told}
use Rattle.minus.specs.Seen.{Seen}
use Rattle.minus_commands.specs.Registration.{Exit}
use Rattle.minus.specs.Works.{Takes, Exits, IsUnfit, IsOverfull, Worked, Comes}
use Rattle.minus.specs.Waiting.{IsNext}

-- a step whose last drawing was refused, of which a beginning was written: the session has failed
pub record IsBrokenStep {Q K : Type 0} (says : Says Q K) (old : Seen Q K) (told : Told Q K) (new : Seen Q K)
    (old_bytes new_bytes : Option (List ℕ)) : Type 0 where
  pub works : List Work
  pub refused : List Refusal
  pub copied : Option (List ℕ)
  pub last : Seen Q K
  pub worked : Worked says old told works refused copied last
  pub broken : BrokenOff old_bytes new_bytes old.control works last.control
  pub failed : new ≡ record last { status = status.Failed }

-- a step in which the cleanup of an exit was refused, of which a beginning was written: the session has failed
pub record IsBrokenExit {Q K : Type 0} (says : Says Q K) (cause : CleanupError) (old : Seen Q K) (told : Told Q K)
    (new : Seen Q K) (old_bytes new_bytes : Option (List ℕ)) : Type 0 where
  pub works : List Work
  pub refused : List Refusal
  pub copied : Option (List ℕ)
  pub last : Seen Q K
  pub next : Told Q K
  pub exit : Exit
  pub drawn : Option (List ℕ)
  pub comes : Comes says old told works refused copied last next
  pub exits : Exits says last next exit
  pub draws : Drawn old_bytes drawn old.control works last.control
  pub broken : CleanupBreaksOff cause drawn new_bytes
  pub failed : new ≡ record (taken last next exits.wanted) { status = status.Failed }

-- there was no memory for an input that waited, after some works that were drawn: to perform it, or to keep its
-- refusal. The session has failed, with what waited behind that input
pub record IsLate {Q K : Type 0} (says : Says Q K) (old : Seen Q K) (told : Told Q K) (new : Seen Q K)
    (old_bytes new_bytes : Option (List ℕ)) : Type 0 where
  pub works : List Work
  pub refused : List Refusal
  pub copied : Option (List ℕ)
  pub last : Seen Q K
  pub next : Told Q K
  pub rest : List (Told Q K)
  pub worked : Worked says old told works refused copied last
  pub waits : IsNext last next rest
  pub drawn : Drawn old_bytes new_bytes old.control works last.control
  pub failed : new ≡ record last { waiting = rest; status = status.Failed }

-- nothing has changed, and nothing was written
abbrev pub IsUntouched : {Q K : Type 0} → Seen Q K → Seen Q K → Option (List ℕ) → Option (List ℕ) → Type 0
IsUntouched old new old_bytes new_bytes = (new ≡ old) × (new_bytes ≡ old_bytes)

-- what was asked for cannot be done: the request, or, of a key, the typing of a character to a full query
abbrev pub IsUnfitFor : {Q K : Type 0} → Says Q K → Seen Q K → Told Q K → Refusal → Type 0
IsUnfitFor says s told for_query = IsOverfull s told
IsUnfitFor says s told refusal = IsUnfit says s told refusal

-- when a step is refused, and what it leaves: all as it was, where memory ran out for the input that it is told, what
-- was asked for cannot be done, or the session had exited or failed before; where the sink refused, or memory ran out
-- for an input that waited, a session that has failed
abbrev pub RefusesIn : {Q K : Type 0} → Class → Says Q K → Refusal → Seen Q K → Told Q K → Seen Q K → Option (List ℕ)
    → Option (List ℕ) → Type 0
RefusesIn memory says refusal old told new old_bytes new_bytes =
    (old.status ≡ status.Running)
    × (IsUntouched old new old_bytes new_bytes ⊎ IsLate says old told new old_bytes new_bytes)
RefusesIn unfit says refusal old told new old_bytes new_bytes =
    (old.status ≡ status.Running) × IsUnfitFor says old told refusal × IsUntouched old new old_bytes new_bytes
RefusesIn (over stands) says refusal old told new old_bytes new_bytes =
    (old.status ≡ stands) × IsUntouched old new old_bytes new_bytes
RefusesIn (cleanup cause) says refusal old told new old_bytes new_bytes =
    (old.status ≡ status.Running) × IsBrokenExit says cause old told new old_bytes new_bytes
RefusesIn drawing says refusal old told new old_bytes new_bytes =
    (old.status ≡ status.Running) × IsBrokenStep says old told new old_bytes new_bytes
RefusesIn never says refusal old told new old_bytes new_bytes = ⊥

-- when a step is refused for this, and what it leaves: see `RefusesIn`, by the class of the refusal
abbrev pub Refuses : {Q K : Type 0} → Says Q K → Refusal → Seen Q K → Told Q K → Seen Q K → Option (List ℕ)
    → Option (List ℕ) → Type 0
Refuses says refusal old told new old_bytes new_bytes =
    RefusesIn (class_of refusal) says refusal old told new old_bytes new_bytes

-- the sink refused a write or a flush, or took nothing
abbrev pub IsSinkFault : Refusal → Type 0
IsSinkFault (at_cleanup cause) = Unit {0}
IsSinkFault at_drawing = Unit {0}
IsSinkFault refusal = ⊥

-- one input was not taken: nothing has changed, or the sink refused its drawing or its cleanup
abbrev pub FailsIn : {Q K : Type 0} → Class → Says Q K → Refusal → Seen Q K → Told Q K → Seen Q K → Option (List ℕ)
    → Option (List ℕ) → Type 0
FailsIn memory says refusal old told new old_bytes new_bytes = IsUntouched old new old_bytes new_bytes
FailsIn unfit says refusal old told new old_bytes new_bytes =
    IsUnfitFor says old told refusal × IsUntouched old new old_bytes new_bytes
FailsIn (cleanup cause) says refusal old told new old_bytes new_bytes =
    (exit : Exit) × (exits : Exits says old told exit) × CleanupBreaksOff cause old_bytes new_bytes
    × (new ≡ record (taken old told exits.wanted) { status = status.Failed })
FailsIn drawing says refusal old told new old_bytes new_bytes =
    (work : Work) × (copied : Option (List ℕ)) × (last : Seen _ _) × Takes says old told work copied last
    × BrokenOff old_bytes new_bytes old.control (work ∷ []) last.control
    × (new ≡ record last { status = status.Failed })
FailsIn (over stands) says refusal old told new old_bytes new_bytes = ⊥
FailsIn never says refusal old told new old_bytes new_bytes = ⊥

-- one input was not taken, for this: nothing has changed, or the sink refused its drawing or its cleanup
abbrev pub Fails : {Q K : Type 0} → Says Q K → Refusal → Seen Q K → Told Q K → Seen Q K → Option (List ℕ)
    → Option (List ℕ) → Type 0
Fails says refusal old told new old_bytes new_bytes =
    FailsIn (class_of refusal) says refusal old told new old_bytes new_bytes

-- an input that waited was not taken: nothing has changed, or the sink refused its cleanup, or the
-- drawing of it and of some of those behind it
abbrev pub FailsWithIn : {Q K : Type 0} → Class → Says Q K → Refusal → Seen Q K → Told Q K → Seen Q K → Option (List ℕ)
    → Option (List ℕ) → Type 0
FailsWithIn drawing says refusal old told new old_bytes new_bytes =
    (works : List Work) × (copied : Option (List ℕ)) × (last : Seen _ _) × Worked says old told works [] copied last
    × BrokenOff old_bytes new_bytes old.control works last.control × (new ≡ record last { status = status.Failed })
FailsWithIn class says refusal old told new old_bytes new_bytes =
    FailsIn class says refusal old told new old_bytes new_bytes

-- an input that waited was not taken, for this: see `FailsWithIn`, by the class of the refusal
abbrev pub FailsWith : {Q K : Type 0} → Says Q K → Refusal → Seen Q K → Told Q K → Seen Q K → Option (List ℕ)
    → Option (List ℕ) → Type 0
FailsWith says refusal old told new old_bytes new_bytes =
    FailsWithIn (class_of refusal) says refusal old told new old_bytes new_bytes
