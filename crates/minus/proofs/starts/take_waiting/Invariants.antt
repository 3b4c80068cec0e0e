-- The commands that are left lead to what all do, and each of them can be read in.
use Rattle.std.proofs.Common.{◌≡◌, List, length, map}
use Rattle.minus_state.specs.declared.hooks.HookId.{HookId}
use Rattle.minus_state.specs.States.{IsFormed, control_of}
use Rattle.minus_commands.specs.Reads.{wanted_of}
use Rattle.minus.specs.Starts.{taken_all}
use Rattle.minus_commands.specs.WaitingRegistrations.{CanTakeAll}
use Rattle.minus.proofs.starts.take_waiting.Given as goal

abbrev pub invariant-loop-command : goal.invariant-loop-command
invariant-loop-command g l =
    let left = map wanted_of l.rest in
    IsFormed l.state
    × (taken_all (control_of l.state) left ≡ taken_all (control_of l.fn.state) (map wanted_of l.queue))
    × ((ids : List HookId) × CanTakeAll ids left)

abbrev pub decreases-loop-command : goal.decreases-loop-command
decreases-loop-command g l = length l.rest
