-- The texts so far are joined.
use Rattle.std.proofs.Common.{◌≤◌, length, map, string_bytes}
use Rattle.minus.specs.Joined.{AreJoined}
use Rattle.minus_commands.specs.Reads.{wanted_of}
use Rattle.minus_commands.specs.Table.{appends_data}
use Rattle.minus.proofs.joined.join_appends.Given as goal

abbrev pub invariant-loop-command : goal.invariant-loop-command
invariant-loop-command g l = record {
  joined : AreJoined appends_data l.fn.first (map wanted_of l.commands) (string_bytes l.text) (map wanted_of l.rest);
  less : length l.rest ≤ length l.commands;
}

abbrev pub decreases-loop-command : goal.decreases-loop-command
decreases-loop-command g l = length l.rest
