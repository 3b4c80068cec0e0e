-- The key comes to a change that is applied.
use Rattle.std.proofs.lemmas.Result.{IfOk-weaker, IfErr-weaker}
use Rattle.minus_commands.specs.Reads.{an_event}
use Rattle.minus.proofs.session.Core.edit.Goals as goal

pub returns-clause-taken : goal.returns-clause-taken
returns-clause-taken g c = IfOk-weaker c.change.result _ _ (λ t h. h (an_event c.args.event) c.in_ok-outcome.ensures.taken.0 c.in_ok-outcome.ensures.taken.1) c.change.ensures.taken

pub returns-clause-refused : goal.returns-clause-refused
returns-clause-refused g c = IfErr-weaker c.change.result _ _ (λ e h. h (an_event c.args.event) c.in_ok-outcome.ensures.taken.0 c.in_ok-outcome.ensures.taken.1) c.change.ensures.refused
