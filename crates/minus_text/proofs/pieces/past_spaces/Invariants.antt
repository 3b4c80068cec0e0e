-- What is passed so far is spaces.
use Rattle.std.proofs.Common.{◌≡◌, ◌≤◌, length, drop, chars}
use denote.Text.{Utf8}
use denote.Shadow.{shadow}
use Rattle.std.specs.List.{prefix_len}
use Rattle.minus_text.specs.Pieces.{is_space}
use Rattle.minus_text.proofs.pieces.past_spaces.Given as goal

abbrev pub invariant-loop-c : goal.invariant-loop-c
invariant-loop-c l = record {
  utf8 : shadow (Utf8 l.rest);
  left : drop (prefix_len is_space (chars l.rest)) (chars l.rest) ≡ drop (prefix_len is_space (chars l.text)) (chars l.text);
  room : length l.rest ≤ length l.text;
}

abbrev pub decreases-loop-c : goal.decreases-loop-c
decreases-loop-c l = length l.rest
