-- The cleanup of a session that still needs it.
use Rattle.std.proofs.Common.{List, ℕ, subst, OnOk}
use Rattle.std.specs.Io.KnownBytes.{Appends}
use Rattle.minus.proofs.session.Core.finish.Goals as goal

pub returns-clause-ended : goal.returns-clause-ended
returns-clause-ended g c = λ ended. (c.cleanup-cleaned.ensures.untouched (c.needs_cleanup-needs_cleanup.ensures.ended ended), c.cleanup-cleaned.ensures.off (c.needs_cleanup-needs_cleanup.ensures.ended ended))

pub returns-clause-ok : goal.returns-clause-ok
returns-clause-ok g c =
    subst (λ (bytes : List ℕ). OnOk c.cleanup-cleaned.result (Appends (g.S.OutputSink.seen c.args.self.sink).bytes (g.S.OutputSink.seen c.cleanup-cleaned.new.out).bytes bytes)) c.needs_cleanup-needs_cleanup.ensures.bytes c.cleanup-cleaned.ensures.ok
