-- The newlines so far.
use Rattle.std.proofs.Common.{◌≡◌, ◌≤◌, take}
use Rattle.std.specs.List.{sum_by}
use Rattle.minus_text.proofs.LineCountLaws.{newline_here}
use Rattle.minus_text.proofs.lines.newlines.Given as goal

abbrev pub invariant-loop-b : goal.invariant-loop-b
invariant-loop-b l = record {
  so_far : l.count ≡ sum_by newline_here (take l.b-index l.text);
  few : l.count ≤ l.b-index;
}
