-- Starts of sessions on their sinks.
use Rattle.std.specs.Prelude.{◌≡◌, ℕ, [], true, map, None, Some}
use Rattle.minus_term.specs.Counts.{SinkSeen, Stays, Rises}
use Rattle.minus_term.specs.Refusals.{refusal_of}
use Rattle.minus.specs.declared.init.StartErrorOf.{StartErrorOf}
use Rattle.minus_commands.specs.declared.pager.PagerOf.{PagerOf}
use Rattle.minus.specs.declared.session.Core.{Core}
use Rattle.minus_state.specs.declared.state.RunMode.{RunMode}
use Rattle.minus.specs.Core.{seen_of}
use Rattle.minus_commands.specs.declared.parts.PartsOf.{PartsOf}
use Rattle.minus.specs.declared.status.Status.TheVariants as status
use Rattle.minus_state.specs.States.{control_of}
use Rattle.minus_commands.specs.Queued.{waiting_of}
use Rattle.minus_commands.specs.Reads.{kept_of, wanted_of}
use Rattle.minus.specs.Seen.{Seen}
use Rattle.minus.specs.Starts.{first_control, first_move, CanBegin, BeginsAndMoves, IsShowRefused, IsStarted}
use Rattle.minus.specs.Starts.{IsStartRefused, IsEarly, StartBreaksOff, IsStartFault}

-- what a session is seen as that begins with these parts
abbrev pub seen_first : {P H E Q K : Type 0} → RunMode → PartsOf P H E Q K → Seen Q K
seen_first mode parts = record {
  control = control_of parts.state;
  classifier = parts.classifier;
  condition = parts.condition;
  kept = kept_of parts;
  mode = mode;
  waiting = [];
  status = status.Running;
}

-- a session is shown on a terminal: its first page is drawn, and the mark moves to the
-- last one where the text is followed
pub record IsOpened {S P H E Q K : Type 0} (seen : S → SinkSeen) (mode : RunMode) (parts : PartsOf P H E Q K) (sink : S)
    (session : Core S P H E Q K) : Type 0 where
  pub on_terminal : (seen sink).terminal ≡ true
  pub begins :
      seen_of session
      ≡ (let first : Seen Q K = seen_first mode parts in
      let r : Seen Q K = record first { control = (first_move first.control).left } in r)
  pub drawn : BeginsAndMoves (seen sink).bytes (seen session.sink).bytes (control_of parts.state)
  pub stays : Stays (seen sink).refusals (seen session.sink).refusals

-- it is not: when that is refused, and what it leaves on the sink
pub record IsUnopened {S P H E Q K : Type 0} (seen : S → SinkSeen) (parts : PartsOf P H E Q K) (sink : S)
    (e : StartErrorOf S P H E Q K) : Type 0 where
  pub refused : IsShowRefused (refusal_of e.cause) (seen sink).terminal
  pub gone : e.pager ≡ None
  pub broken : StartBreaksOff (refusal_of e.cause) (seen sink).bytes (seen e.sink).bytes (seen sink).refusals
      (seen e.sink).refusals (control_of parts.state)
  pub rises : IsStartFault (refusal_of e.cause) → Rises (seen sink).refusals (seen e.sink).refusals
  pub untouched : (IsStartFault (refusal_of e.cause) → ⊥) → e.sink ≡ sink

-- a start of a pager over a sink that ends well: the sink refused nothing
pub record IsStart {S P H E Q K : Type 0} (seen : S → SinkSeen) (pager : PagerOf P H E Q K) (mode : RunMode)
    (cols rows : ℕ) (classifier : K) (sink : S) (session : Core S P H E Q K) : Type 0 where
  pub started :
      IsStarted (seen_of session) classifier (map wanted_of (waiting_of pager)) mode cols rows (seen sink).terminal
      (seen sink).bytes (seen session.sink).bytes
  pub stays : Stays (seen sink).refusals (seen session.sink).refusals

-- a start that ends well with a classifier of its own at first
pub record IsFirstStart {S P H E Q K : Type 0} (IsFirst : K → Type 0) (seen : S → SinkSeen) (pager : PagerOf P H E Q K)
    (mode : RunMode) (cols rows : ℕ) (sink : S) (session : Core S P H E Q K) : Type 0 where
  pub classifier : K
  pub first : IsFirst classifier
  pub start : IsStart seen pager mode cols rows classifier sink session

-- a start that is refused: when it is, whether the pager comes back, and what it leaves
-- on the sink, which comes back too
pub record IsRefusedStart {S P H E Q K : Type 0} (seen : S → SinkSeen) (pager : PagerOf P H E Q K) (mode : RunMode)
    (cols rows : ℕ) (sink : S) (e : StartErrorOf S P H E Q K) : Type 0 where
  pub refused : IsStartRefused (refusal_of e.cause) mode cols rows (map wanted_of (waiting_of pager))
      (seen sink).terminal
  pub returned : IsEarly (refusal_of e.cause) → e.pager ≡ Some pager
  pub gone : (IsEarly (refusal_of e.cause) → ⊥) → e.pager ≡ None
  pub broken : StartBreaksOff (refusal_of e.cause) (seen sink).bytes (seen e.sink).bytes (seen sink).refusals
      (seen e.sink).refusals (first_control cols rows (map wanted_of (waiting_of pager)))
  pub rises : IsStartFault (refusal_of e.cause) → Rises (seen sink).refusals (seen e.sink).refusals
  pub untouched : (IsStartFault (refusal_of e.cause) → ⊥) → e.sink ≡ sink

module _ {S P H E Q K : Type 0} (seen : S → SinkSeen) (pager : PagerOf P H E Q K) (mode : RunMode)
    (parts : PartsOf P H E Q K) (sink : S) where
  -- the start of a session with these parts ends well, where their control is the first one of a pager
  abbrev pub IsBegun : Core S P H E Q K → Type 0
  IsBegun session =
      (cols rows : ℕ) → CanBegin mode cols rows (map wanted_of (waiting_of pager))
      → control_of parts.state ≡ first_control cols rows (map wanted_of (waiting_of pager))
      → IsStart seen pager mode cols rows parts.classifier sink session

  -- the start of a session with these parts is refused, where their control is the first one of a pager
  abbrev pub IsUnbegun : StartErrorOf S P H E Q K → Type 0
  IsUnbegun e =
      (cols rows : ℕ) → CanBegin mode cols rows (map wanted_of (waiting_of pager))
      → control_of parts.state ≡ first_control cols rows (map wanted_of (waiting_of pager))
      → IsRefusedStart seen pager mode cols rows sink e
