-- The inputs that are gone were performed, in order, and the session runs.
use Rattle.std.proofs.Common.{◌≡◌, List, length, map, None}
use Rattle.std.specs.List.{last_or}
use Rattle.minus.specs.declared.answer.Answer.{Answer}
use Rattle.minus.specs.declared.status.Status.TheVariants.{Running}
use Rattle.minus.specs.Core.{seen_of}
use Rattle.minus_commands.specs.Reads.{told_of}
use Rattle.minus_script.specs.Runs.{IsPerformed}
use Rattle.minus_script.proofs.run.perform_all.Given as goal

abbrev pub invariant-loop-session : goal.invariant-loop-session
invariant-loop-session g l =
    (answers : List Answer)
    × IsPerformed (seen_of l.initial.session) (seen_of l.session) (map told_of l.fn.inputs.items) answers (map told_of l.left.items) (g.S.OutputSink.seen l.initial.session.sink).bytes (g.S.OutputSink.seen l.session.sink).bytes
    × (l.last ≡ last_or None answers) × ((seen_of l.session).status ≡ Running)

abbrev pub decreases-loop-session : goal.decreases-loop-session
decreases-loop-session g l = length l.left.items
