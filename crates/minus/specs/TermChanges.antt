-- The term of a session, set manually.
use Rattle.std.specs.Prelude.{◌≡◌, Option}
use Rattle.regex.specs.Patterns.{Re}
use Rattle.minus_term.specs.Counts.{SinkSeen, Stays, Rises}
use Rattle.minus_term.specs.Refusals.{Refusal, for_memory, at_drawing}
use Rattle.minus_state.specs.Control.{searched_for}
use Rattle.minus.specs.declared.session.Core.{Core}
use Rattle.minus.specs.declared.status.Status.TheVariants as status
use Rattle.minus.specs.Core.{seen_of}
use Rattle.minus_draw.specs.Drawn.{Redraws, RedrawBreaksOff}
use Rattle.minus.specs.Exchanges.{CanExchange, IsExchangeEarly}
use Rattle.minus.specs.Seen.{Seen}

-- what a session is seen as that searches for another term, or for none: its page begins with the same row
abbrev pub with_term : {Q K : Type 0} → Seen Q K → Option Re → Seen Q K
with_term seen term = record seen { control = searched_for seen.control term }

-- the term was set: the sink grew by the page, drawn whole, and refused nothing
pub record IsTermChange {S P H E Q K : Type 0} (sink : S → SinkSeen) (old : Core S P H E Q K) (term : Option Re)
    (new : Core S P H E Q K) : Type 0 where
  pub can : CanExchange (seen_of old)
  pub seen : seen_of new ≡ with_term (seen_of old) term
  pub drawn : Redraws (sink old.sink).bytes (sink new.sink).bytes (seen_of new).control
  pub stays : Stays (sink old.sink).refusals (sink new.sink).refusals

-- nothing was set: the session is as it was, and nothing was written
pub record IsTermKept {S P H E Q K : Type 0} (old new : Core S P H E Q K) : Type 0 where
  pub seen : seen_of new ≡ seen_of old
  pub sink : new.sink ≡ old.sink

-- the sink refused the page, of which a beginning was written: the session has failed over the new term
pub record IsBrokenTermChange {S P H E Q K : Type 0} (sink : S → SinkSeen) (old : Core S P H E Q K) (term : Option Re)
    (new : Core S P H E Q K) : Type 0 where
  pub can : CanExchange (seen_of old)
  pub seen : seen_of new ≡ record (with_term (seen_of old) term) { status = status.Failed }
  pub broken : RedrawBreaksOff (sink old.sink).bytes (sink new.sink).bytes (seen_of new).control
  pub rises : Rises (sink old.sink).refusals (sink new.sink).refusals

-- when a term is refused, and what that leaves: it is set where a sink may be exchanged
abbrev pub RefusesTerm : {S P H E Q K : Type 0} → Refusal → (S → SinkSeen) → Core S P H E Q K → Option Re
    → Core S P H E Q K → Type 0
RefusesTerm for_memory sink old term new = CanExchange (seen_of old) × IsTermKept old new
RefusesTerm at_drawing sink old term new = IsBrokenTermChange sink old term new
RefusesTerm refusal sink old term new = IsExchangeEarly refusal (seen_of old) × IsTermKept old new
