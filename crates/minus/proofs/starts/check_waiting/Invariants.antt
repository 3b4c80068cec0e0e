-- What can be said of the commands that are left can be said of all.
use Rattle.std.proofs.Common.{[], map, drop}
use Rattle.minus_term.specs.Refusals.{Refusal}
use Rattle.minus_state.specs.Hooks.{held_by}
use Rattle.minus_commands.specs.Reads.{wanted_of}
use Rattle.minus_commands.specs.WaitingRegistrations.{CanTakeAll}
use Rattle.minus.specs.Starts.{IsUntaken}
use Rattle.minus.proofs.starts.check_waiting.Given as goal

abbrev pub invariant-loop-command : goal.invariant-loop-command
invariant-loop-command g l =
    (CanTakeAll (held_by l.ids).ids (map wanted_of (drop l.command-index l.queue)) → CanTakeAll [] (map wanted_of l.queue))
    × ((refusal : Refusal) → IsUntaken refusal (held_by l.ids).ids (map wanted_of (drop l.command-index l.queue)) → IsUntaken refusal [] (map wanted_of l.queue))
