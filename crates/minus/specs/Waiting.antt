-- What waits while the search prompt is open, and the result of it then.
use Rattle.std.specs.Prelude.{◌≡◌, List, [], ◌∷◌, Option, None, Some}
use Rattle.minus_term.specs.declared.event.Event.TheVariants.{Resize}
use Rattle.minus_commands.specs.Reads.{Told, a_command, an_event}
use Rattle.minus_commands.specs.Table.{Wanted, resizes}
use Rattle.minus.specs.Seen.{Seen}

-- what an input is checked as before it waits: a command as what it asks for by itself, a new size as a request for
-- that size; any other event does not wait
abbrev pub checked_as : {Q K : Type 0} → Told Q K → Option (Wanted Q K)
checked_as (a_command asked) = Some asked
checked_as (an_event (Resize cols rows)) = Some (resizes cols rows)
checked_as (an_event event) = None

-- with no search prompt open, this input is the next of those that wait, and these are the rest
abbrev pub IsNext : {Q K : Type 0} → Seen Q K → Told Q K → List (Told Q K) → Type 0
IsNext s told rest = (s.control.search ≡ None) × (s.waiting ≡ told ∷ rest)

-- what a session is seen as once the next of those that wait was taken from them
abbrev pub leaving : {Q K : Type 0} → Seen Q K → List (Told Q K) → Seen Q K
leaving s rest = record s { waiting = rest }

-- nothing more is performed: the search prompt is open, or nothing waits
abbrev pub IsAtRest : {Q K : Type 0} → Seen Q K → Type 0
IsAtRest s = s.control.search ≡ None → s.waiting ≡ []

-- no search prompt is open, and nothing waits
pub record IsReady {Q K : Type 0} (s : Seen Q K) : Type 0 where
  pub closed : s.control.search ≡ None
  pub none_waits : s.waiting ≡ []
