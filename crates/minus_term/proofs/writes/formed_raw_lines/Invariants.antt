-- The lines so far are formed.
use Rattle.std.proofs.Common.{◌≡◌, map, take}
use Rattle.minus_term.specs.Writes.{raw_lines}
use Rattle.minus_term.proofs.writes.formed_raw_lines.Given as goal

abbrev pub invariant-loop-line : goal.invariant-loop-line
invariant-loop-line g l = l.bytes.items ≡ raw_lines l.before (map g.L.AsStr.text (take l.line-index l.lines))
