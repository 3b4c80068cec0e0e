-- No hyphen passed so far stands between letters or digits.
use denote.Text.{Utf8}
use denote.Shadow.{shadow}
use Rattle.std.proofs.Common.{◌≤◌, length}
use Rattle.minus_text.proofs.WordsLaws.{PartScan}
use Rattle.minus_text.proofs.hyphens.split_part.Given as goal

abbrev pub invariant-loop-c : goal.invariant-loop-c
invariant-loop-c l = record {
  utf8 : shadow (Utf8 l.rest);
  scan : PartScan l.body l.rest l.before;
  room : length l.rest ≤ length l.body;
}

abbrev pub decreases-loop-c : goal.decreases-loop-c
decreases-loop-c l = length l.rest
