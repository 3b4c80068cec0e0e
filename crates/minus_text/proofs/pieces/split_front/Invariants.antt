-- The units so far fit.
use Rattle.std.proofs.Common.{◌+◌, ◌*◌, ◌≤◌, length, chars}
use denote.Text.{Utf8}
use denote.Shadow.{shadow}
use Rattle.minus_text.proofs.FrontsLaws.{SoFar}
use Rattle.minus_text.proofs.pieces.split_front.Given as goal

abbrev pub invariant-loop-more : goal.invariant-loop-more
invariant-loop-more l = record {
  utf8 : shadow (Utf8 l.rest);
  so_far : SoFar l.cols (chars l.part) (chars l.rest) l.width l.wide (length l.part) (length l.rest);
  room : l.width + 2 * length l.rest ≤ 2 * length l.part;
  within : length l.rest ≤ length l.part;
  few : l.wide + length l.rest ≤ length l.part;
}

abbrev pub decreases-loop-more : goal.decreases-loop-more
decreases-loop-more l = length l.rest
