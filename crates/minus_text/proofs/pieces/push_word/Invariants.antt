-- The parts so far are pieces.
use Rattle.std.proofs.Common.{◌≡◌, ◌++◌, map, length, chars}
use denote.Text.{Utf8}
use denote.Shadow.{shadow}
use Rattle.std.specs.List.{flat_map}
use Rattle.minus_text.specs.Pieces.{fronts, with_spaces}
use Rattle.minus_text.specs.Hyphens.{parts}
use Rattle.minus_text.specs.MeasuredPieces.{measure}
use Rattle.minus_text.proofs.pieces.push_word.Given as goal

abbrev pub invariant-loop-part : goal.invariant-loop-part
invariant-loop-part l = record {
  utf8 : shadow (Utf8 l.rest);
  left : l.pieces.items ++ map measure (with_spaces (flat_map (fronts l.cols) (parts (chars l.rest))) l.spaces) ≡ l.fn.pieces.items ++ map measure (with_spaces (flat_map (fronts l.cols) (parts (chars l.body))) l.spaces);
}

abbrev pub decreases-loop-part : goal.decreases-loop-part
decreases-loop-part l = length l.rest
