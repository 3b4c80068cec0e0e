-- The inputs that were taken are performed, and drawn.
use Rattle.std.proofs.Common.{◌≡◌, None, [], map, option_map, string_bytes}
use Rattle.std.specs.VecDeque.{deque_len}
use Rattle.minus_term.specs.Counts.{Stays}
use Rattle.minus_term.specs.Refusals.{refusal_of}
use Rattle.minus.specs.Says.{says_of}
use Rattle.minus.specs.SessionCallbacks.{CallsTaken}
use Rattle.minus.specs.Core.{seen_of}
use Rattle.minus_commands.specs.Reads.{told_of}
use Rattle.minus.specs.Waiting.{IsAtRest}
use Rattle.minus.proofs.LoopLaws.{SoFar}
use Rattle.minus.proofs.session.Core.step.Given as goal

abbrev pub invariant-loop-next : goal.invariant-loop-next
invariant-loop-next g l =
    Stays (g.S.OutputSink.seen l.fn.self.sink).refusals (g.S.OutputSink.seen l.self.sink).refusals
    × SoFar (says_of g.P.Condition.ConditionCall.judges g.P.Classifier.InputClassifier.says) (seen_of l.fn.self) (told_of l.fn.input) (g.S.OutputSink.seen l.fn.self.sink).bytes (g.S.OutputSink.seen l.self.sink).bytes (seen_of l.self) (map refusal_of l.refused.items) (option_map string_bytes l.copied)
    × ((seen_of l.fn.self).waiting ≡ [] → CallsTaken l.fn.self l.fn.input l.self None)
    × ((seen_of l.fn.self).waiting ≡ [] → IsAtRest (seen_of l.self))

abbrev pub decreases-loop-next : goal.decreases-loop-next
decreases-loop-next g l = deque_len l.self.waiting
