-- The inputs that are gone were performed, in order.
use Rattle.std.proofs.Common.{length, reverse}
use Rattle.minus_term.specs.Counts.{Stays}
use Rattle.minus.specs.Says.{says_of}
use Rattle.minus_commands.specs.Reads.{told_of}
use Rattle.minus.specs.Core.{seen_of}
use Rattle.minus.proofs.RunLaws.{RunSoFar}
use Rattle.minus.proofs.session.Core.run_from_end.Given as goal

abbrev pub invariant-loop-input : goal.invariant-loop-input
invariant-loop-input g l =
    Stays (g.S.OutputSink.seen l.initial.self.sink).refusals (g.S.OutputSink.seen l.self.sink).refusals
    × RunSoFar (says_of g.P.Condition.ConditionCall.judges g.P.Classifier.InputClassifier.says) told_of (seen_of l.initial.self) (seen_of l.self) (reverse l.initial.left.items) l.left.items l.done l.last (g.S.OutputSink.seen l.initial.self.sink).bytes (g.S.OutputSink.seen l.self.sink).bytes

abbrev pub decreases-loop-input : goal.decreases-loop-input
decreases-loop-input g l = length l.left.items
