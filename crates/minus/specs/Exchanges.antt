-- Exchanges of a session's sink.
use Rattle.std.specs.Prelude.{◌≡◌, ℕ, true, false, is_some, None}
use Rattle.minus_term.specs.Counts.{SinkSeen, Stays, Rises}
use Rattle.minus_term.specs.Refusals.{Refusal, for_memory, for_size, for_mode, after_failure, after_exit, at_drawing}
use Rattle.minus_state.specs.Sizes.{IsSize}
use Rattle.minus.specs.declared.session.Core.{Core}
use Rattle.minus.specs.declared.status.Status.TheVariants as status
use Rattle.minus.specs.Core.{seen_of}
use Rattle.minus_draw.specs.Drawn.{Redraws, RedrawBreaksOff}
use Rattle.minus.specs.Seen.{Seen}
use Rattle.minus_commands.specs.Table.{resizes}
use Rattle.minus.specs.Works.{after}

-- what a session is seen as over a terminal of this size
abbrev pub resized : {Q K : Type 0} → Seen Q K → (cols rows : ℕ) → Seen Q K
resized seen cols rows = after false seen (resizes cols rows)

-- the sink can be exchanged, or the term set: the session runs, and no search prompt is open
pub record CanExchange {Q K : Type 0} (seen : Seen Q K) : Type 0 where
  pub running : seen.status ≡ status.Running
  pub closed : seen.control.search ≡ None

-- why it cannot be exchanged now: the session has failed or exited, or a search prompt is open
abbrev pub IsExchangeEarly : {Q K : Type 0} → Refusal → Seen Q K → Type 0
IsExchangeEarly after_failure seen = seen.status ≡ status.Failed
IsExchangeEarly after_exit seen = seen.status ≡ status.Ended
IsExchangeEarly for_mode seen = (seen.status ≡ status.Running) × (is_some seen.control.search ≡ true)
IsExchangeEarly refusal seen = ⊥

-- the sink was exchanged: the session is over a terminal of this size, the new sink grew by the page, drawn whole, and
-- refused nothing, and the old one came back
pub record IsExchange {S P H E Q K : Type 0} (sink : S → SinkSeen) (old : Core S P H E Q K) (given : S) (cols rows : ℕ)
    (new : Core S P H E Q K) (other : S) : Type 0 where
  pub can : CanExchange (seen_of old)
  pub size : IsSize cols rows
  pub seen : seen_of new ≡ resized (seen_of old) cols rows
  pub back : other ≡ old.sink
  pub drawn : Redraws (sink given).bytes (sink new.sink).bytes (seen_of new).control
  pub stays : Stays (sink given).refusals (sink new.sink).refusals

-- nothing was exchanged: the session is as it was, and the sink that was given came back
pub record IsUnexchanged {S P H E Q K : Type 0} (old : Core S P H E Q K) (given : S) (new : Core S P H E Q K)
    (other : S) : Type 0 where
  pub seen : seen_of new ≡ seen_of old
  pub sink : new.sink ≡ old.sink
  pub back : other ≡ given

-- the new sink refused the page, of which a beginning was written: the session has failed
-- over it, and the old one came back
pub record IsBrokenExchange {S P H E Q K : Type 0} (sink : S → SinkSeen) (old : Core S P H E Q K) (given : S)
    (cols rows : ℕ) (new : Core S P H E Q K) (other : S) : Type 0 where
  pub can : CanExchange (seen_of old)
  pub size : IsSize cols rows
  pub seen : seen_of new ≡ record (resized (seen_of old) cols rows) { status = status.Failed }
  pub back : other ≡ old.sink
  pub broken : RedrawBreaksOff (sink given).bytes (sink new.sink).bytes (seen_of new).control
  pub rises : Rises (sink given).refusals (sink new.sink).refusals

-- when an exchange is refused, and what it leaves
abbrev pub RefusesExchange : {S P H E Q K : Type 0} → Refusal → (S → SinkSeen) → Core S P H E Q K → S → (cols rows : ℕ)
    → Core S P H E Q K → S → Type 0
RefusesExchange (for_size c r) sink old given cols rows new other =
    CanExchange (seen_of old) × (c ≡ cols) × (r ≡ rows) × (IsSize cols rows → ⊥) × IsUnexchanged old given new other
RefusesExchange for_memory sink old given cols rows new other =
    CanExchange (seen_of old) × IsUnexchanged old given new other
RefusesExchange at_drawing sink old given cols rows new other = IsBrokenExchange sink old given cols rows new other
RefusesExchange refusal sink old given cols rows new other =
    IsExchangeEarly refusal (seen_of old) × IsUnexchanged old given new other
