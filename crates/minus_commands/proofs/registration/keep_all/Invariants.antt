-- What the commands that are left lead to is what all do, and there is room for them.
use Rattle.std.proofs.Common.{◌≡◌, length, map}
use Rattle.std.specs.Vec.Iter.{into_iter_items, into_iter_len}
use Rattle.minus_commands.specs.Callbacks.{callbacks_of, with_commands}
use Rattle.minus_commands.specs.Reads.{kept_of, wanted_of}
use Rattle.minus_commands.specs.Room.{HasRoomFor}
use Rattle.minus_commands.specs.WaitingRegistrations.{kept_taken, classifier_taken, condition_taken, CanTakeAll}
use Rattle.minus_commands.proofs.registration.keep_all.Given as goal

abbrev pub invariant-loop-command : goal.invariant-loop-command
invariant-loop-command g l =
    let left = map wanted_of (into_iter_items l.command-iterator) in
    let all = map wanted_of (into_iter_items l.initial.command-iterator) in
    (kept_taken (kept_of l.parts) left ≡ kept_taken (kept_of l.initial.parts) all)
    × (classifier_taken l.parts.classifier left ≡ classifier_taken l.initial.parts.classifier all)
    × (condition_taken l.parts.condition left ≡ condition_taken l.initial.parts.condition all)
    × CanTakeAll (kept_of l.parts).ids left
    × HasRoomFor l.parts (length (into_iter_items l.command-iterator))
    × (l.parts.state ≡ l.initial.parts.state)
    × (into_iter_len l.command-iterator ≡ length (into_iter_items l.command-iterator))
    × (with_commands (callbacks_of l.parts) (into_iter_items l.command-iterator) ≡ with_commands (callbacks_of l.initial.parts) (into_iter_items l.initial.command-iterator))
