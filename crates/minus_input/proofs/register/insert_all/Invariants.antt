use Rattle.std.proofs.Common.{◌≡◌, ◌+◌, ◌≤◌, take, length}
use Rattle.indexmap.specs.IndexMap.{spare}
use Rattle.minus_input.specs.EventForm.{same_event}
use Rattle.minus_input.specs.Register.{bind_all}
use Rattle.minus_input.proofs.register.insert_all.Given as goal

abbrev pub invariant-loop-key : goal.invariant-loop-key
invariant-loop-key g l = (l.bindings.entries ≡ bind_all same_event l.initial.bindings.entries (take l.key-index l.keys) l.bound) × (length l.keys ≤ spare l.bindings + l.key-index)
