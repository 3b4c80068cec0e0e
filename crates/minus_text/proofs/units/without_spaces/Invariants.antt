-- What is gone are spaces.
use Rattle.std.proofs.Common.{length, ◌≤◌}
use denote.Text.{Utf8}
use denote.Shadow.{shadow}
use Rattle.minus_text.proofs.ColumnsLaws.{BodySoFar}
use Rattle.minus_text.proofs.units.without_spaces.Given as goal

abbrev pub invariant-loop-front : goal.invariant-loop-front
invariant-loop-front l = record {
  utf8 : shadow (Utf8 l.body);
  so_far : BodySoFar l.text l.body;
  room : length l.body ≤ length l.text;
}

abbrev pub decreases-loop-front : goal.decreases-loop-front
decreases-loop-front l = length l.body
