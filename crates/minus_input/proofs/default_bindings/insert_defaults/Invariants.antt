use Rattle.std.proofs.Common.{◌≡◌, ◌+◌, ◌≤◌, take, length}
use Rattle.indexmap.specs.IndexMap.{spare}
use Rattle.minus_input.specs.EventForm.{same_event}
use Rattle.minus_input.specs.Register.{bind_each}
use Rattle.minus_input.specs.Resolved.{default_bounds}
use Rattle.minus_input.proofs.default_bindings.insert_defaults.Given as goal

abbrev pub invariant-loop-key : goal.invariant-loop-key
invariant-loop-key g l = (l.bindings.entries ≡ bind_each same_event l.initial.bindings.entries (default_bounds (take l.key-index l.keys))) × (length l.keys ≤ spare l.bindings + l.key-index)
