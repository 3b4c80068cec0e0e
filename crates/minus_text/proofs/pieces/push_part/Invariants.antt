-- The fronts so far are pieces.
use Rattle.std.proofs.Common.{length, chars}
use denote.Text.{Utf8}
use denote.Shadow.{shadow}
use Rattle.minus_text.proofs.PartsLaws.{PartSoFar}
use Rattle.minus_text.proofs.pieces.push_part.Given as goal

abbrev pub invariant-loop-more : goal.invariant-loop-more
invariant-loop-more l = record {
  utf8 : shadow (Utf8 l.rest);
  so_far : PartSoFar l.cols (chars l.part) (chars l.rest) l.fn.pieces.items l.pieces.items (length l.part) (length l.rest);
}

abbrev pub decreases-loop-more : goal.decreases-loop-more
decreases-loop-more l = length l.rest
