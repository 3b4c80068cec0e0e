-- What is settled so far, and the rest.
use Rattle.std.proofs.Common.{◌+◌, ◌*◌, ◌≤◌, length}
use denote.Text.{Utf8}
use denote.Shadow.{shadow}
use Rattle.minus_text.proofs.BorderLaws.{SettledSoFar}
use Rattle.minus_text.proofs.settled.settled.Given as goal

abbrev pub invariant-loop-more : goal.invariant-loop-more
invariant-loop-more l = record {
  utf8 : shadow (Utf8 l.rest);
  so_far : SettledSoFar l.text l.width l.rest;
  room : l.width + 2 * length l.rest ≤ 2 * length l.text;
}

abbrev pub decreases-loop-more : goal.decreases-loop-more
decreases-loop-more l = length l.rest
