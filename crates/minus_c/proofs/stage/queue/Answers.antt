-- The command itself waits.
use Rattle.std.proofs.Common.{refl}
use Rattle.minus_c.proofs.stage.queue.Goals as goal

pub returns-clause-ok : goal.returns-clause-ok
returns-clause-ok c = (c.args.command, refl, c.in_ok-tell.ensures.ok)
