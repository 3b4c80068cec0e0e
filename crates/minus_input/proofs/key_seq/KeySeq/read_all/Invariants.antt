use Rattle.std.proofs.Common.{◌≡◌, length}
use denote.Text.{Utf8}
use denote.Shadow.{shadow}
use Rattle.minus_input.specs.Reading.{beginning, read_segments}
use Rattle.minus_input.specs.Segments.{segments}
use Rattle.minus_input.proofs.key_seq.KeySeq.read_all.Given as goal

abbrev pub invariant-loop-segment : goal.invariant-loop-segment
invariant-loop-segment g l = record {
  utf8 : shadow (Utf8 l.rest);
  read : read_segments g.C.Named.named beginning (segments l.text) ≡ read_segments g.C.Named.named l.seq (segments l.rest);
}

abbrev pub decreases-loop-segment : goal.decreases-loop-segment
decreases-loop-segment g l = length l.rest
