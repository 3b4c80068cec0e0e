-- What is shown of the units so far.
use Rattle.std.proofs.Common.{◌+◌, ◌*◌, ◌≤◌, ◌++◌, length, string_bytes}
use Rattle.minus_text.specs.TextUnits.{units_left, bytes_left}
use Rattle.minus_text.specs.Crop.{cropped}
use Rattle.minus_text.proofs.CropLaws.{CropSoFar}
use Rattle.minus_text.proofs.crop.push_units.Given as goal

abbrev pub invariant-loop-last : goal.invariant-loop-last
invariant-loop-last l = record {
  so_far : CropSoFar l.left l.width (units_left l.rest) l.at l.last (string_bytes l.row) (string_bytes l.fn.row ++ cropped l.left l.width l.text);
  room : l.at + 2 * length (bytes_left l.rest) ≤ 2 * length l.text;
}

abbrev pub decreases-loop-last : goal.decreases-loop-last
decreases-loop-last l = length (bytes_left l.rest)
