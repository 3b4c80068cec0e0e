-- The texts so far are joined.
use Rattle.std.proofs.Common.{◌≤◌, length, map, string_bytes}
use Rattle.minus.specs.Joined.{AreJoined, append_told}
use Rattle.minus_commands.specs.Reads.{told_of}
use Rattle.minus.proofs.joined.join_waiting.Given as goal

abbrev pub invariant-loop-input : goal.invariant-loop-input
invariant-loop-input g l = record {
  joined : AreJoined append_told l.fn.first (map told_of l.inputs) (string_bytes l.text) (map told_of l.rest);
  less : length l.rest ≤ length l.inputs;
}

abbrev pub decreases-loop-input : goal.decreases-loop-input
decreases-loop-input g l = length l.rest
