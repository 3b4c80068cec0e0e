-- What is gone from `rest` was appended, and nothing was refused.
use Rattle.std.proofs.Common.{◌≡◌, ℕ, List, ◌++◌, length}
use Rattle.std.specs.Io.KnownBytes.{Appends}
use Rattle.minus_term.specs.Counts.{Stays, RisesBy}
use Rattle.minus_term.proofs.sink.write_bytes.Given as goal

abbrev pub invariant-loop-rest : goal.invariant-loop-rest
invariant-loop-rest g l =
    (done : List ℕ) × (l.bytes ≡ done ++ l.rest) × Appends (g.S.OutputSink.seen l.initial.out).bytes (g.S.OutputSink.seen l.out).bytes done × Stays (g.S.OutputSink.seen l.initial.out).refusals (g.S.OutputSink.seen l.out).refusals
    × RisesBy (g.S.OutputSink.seen l.initial.out).settles (g.S.OutputSink.seen l.out).settles 0

abbrev pub decreases-loop-rest : goal.decreases-loop-rest
decreases-loop-rest g l = length l.rest
