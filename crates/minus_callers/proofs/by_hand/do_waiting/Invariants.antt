-- The commands that still wait leave what all of them were to leave.
use Rattle.std.proofs.Common.{◌≡◌, length}
use Rattle.minus_state.specs.States.{control_of, IsFormed}
use Rattle.minus_commands.specs.Queued.{waiting_in}
use Rattle.minus_commands.specs.Reads.{kept_of}
use Rattle.minus_callers.specs.ByHand.{left_by_all}
use Rattle.minus_callers.proofs.by_hand.do_waiting.Given as goal

abbrev pub invariant-loop-command : goal.invariant-loop-command
invariant-loop-command g l =
    (IsFormed l.fn.parts.state → IsFormed l.parts.state)
    × (kept_of l.parts ≡ kept_of l.fn.parts) × (l.parts.classifier ≡ l.fn.parts.classifier) × (l.parts.condition ≡ l.fn.parts.condition)
    × (IsFormed l.fn.parts.state → left_by_all (control_of l.parts.state) (waiting_in l.queue) ≡ left_by_all (control_of l.fn.parts.state) (waiting_in l.fn.queue))

abbrev pub decreases-loop-command : goal.decreases-loop-command
decreases-loop-command g l = length (waiting_in l.queue)
