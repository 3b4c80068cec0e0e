-- The columns and bytes so far, and the range of what is seen.
use Rattle.std.proofs.Common.{◌≡◌, ◌+◌, ◌*◌, ◌≤◌, length}
use Rattle.minus_text.specs.TextUnits.{units_left, bytes_left}
use Rattle.minus_state.specs.VisibleCharacters.{row_units}
use Rattle.minus_state.proofs.LineBoundsLaws.{SeenSoFar}
use Rattle.minus_state.proofs.line_bounds.seen_range.Given as goal

abbrev pub invariant-loop-unit : goal.invariant-loop-unit
invariant-loop-unit l = record {
  so_far : SeenSoFar l.window.left l.window.width (row_units l.text) (units_left l.rest) l.at l.bytes l.range;
  room : l.at + 2 * length (bytes_left l.rest) ≤ 2 * length l.text;
  within : l.bytes + length (bytes_left l.rest) ≡ length l.text;
}

abbrev pub decreases-loop-unit : goal.decreases-loop-unit
decreases-loop-unit l = length (bytes_left l.rest)
