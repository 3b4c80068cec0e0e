-- What the lines so far tell, and how many they are.
use Rattle.std.proofs.Common.{◌≡◌, ◌-◌, ◌+◌, ◌≤◌, map, length}
use Rattle.minus_script.specs.Script.{script_lines, script_told}
use Rattle.minus_commands.specs.Reads.{told_of}
use Rattle.minus_script.proofs.ScriptLaws.{told_after}
use Rattle.minus_script.proofs.script.parse_script.Given as goal

abbrev pub invariant-loop-line : goal.invariant-loop-line
invariant-loop-line l = record {
  few : l.number + length l.rest ≤ length l.script + 1;
  some : 1 ≤ l.number;
  told : script_told (script_lines l.script) ≡ told_after (map told_of l.inputs.items) (l.number - 1) (script_told (script_lines l.rest));
}

abbrev pub decreases-loop-line : goal.decreases-loop-line
decreases-loop-line l = length l.rest
