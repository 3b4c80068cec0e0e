-- What was taken is units, and their events were added.
use Rattle.std.proofs.Common.{ℕ, ◌≡◌, ◌-◌, ◌≤◌, ◌++◌, List, drop, length}
use Rattle.minus_view.specs.Events.{Reads, events_of}
use Rattle.minus_view.proofs.events.push_events.Given as goal

abbrev pub invariant-loop-len : goal.invariant-loop-len
invariant-loop-len l = record {
  within : l.taken ≤ length l.bytes;
  read : (units : List (List ℕ)) × Reads units l.bytes (drop l.taken l.bytes) × (l.events.items ≡ l.fn.events.items ++ events_of units);
}

abbrev pub decreases-loop-len : goal.decreases-loop-len
decreases-loop-len l = length l.bytes - l.taken
