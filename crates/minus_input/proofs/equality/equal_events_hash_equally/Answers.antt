use Rattle.minus_input.specs.EventEquality.{same_event_writes}
use Rattle.minus_input.proofs.equality.equal_events_hash_equally.Goals as goal

pub returns : goal.returns
returns c a b h = same_event_writes a b h
