-- The presses of the characters so far.
use Rattle.std.proofs.Common.{◌≡◌, ◌++◌, map}
use Rattle.minus_commands.specs.Reads.{told_of}
use Rattle.minus_script.specs.Script.{typed}
use Rattle.minus_script.proofs.script.push_presses.Given as goal

abbrev pub invariant-loop-character : goal.invariant-loop-character
invariant-loop-character l = map told_of l.inputs.items ≡ map told_of l.fn.inputs.items ++ map typed l.yielded
