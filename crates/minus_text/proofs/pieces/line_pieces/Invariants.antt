-- The words so far are pieces.
use Rattle.std.proofs.Common.{◌≡◌, ◌++◌, map, length, chars}
use denote.Text.{Utf8}
use denote.Shadow.{shadow}
use Rattle.std.specs.List.{flat_map}
use Rattle.minus_text.specs.Pieces.{words, word_pieces}
use Rattle.minus_text.specs.MeasuredPieces.{measure}
use Rattle.minus_text.proofs.WordsLaws.{all_pieces}
use Rattle.minus_text.proofs.pieces.line_pieces.Given as goal

abbrev pub invariant-loop-rest : goal.invariant-loop-rest
invariant-loop-rest l = record {
  utf8 : shadow (Utf8 l.rest);
  left : l.pieces.items ++ map measure (flat_map (word_pieces l.cols) (words (chars l.rest))) ≡ all_pieces l.cols (chars l.line);
}

abbrev pub decreases-loop-rest : goal.decreases-loop-rest
decreases-loop-rest l = length l.rest
