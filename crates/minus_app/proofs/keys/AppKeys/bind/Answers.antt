-- Keys that are bound already are none of those that are bound here.
use Rattle.minus_app.proofs.KeptLaws.{added_hides_nothing}
use Rattle.minus_app.proofs.keys.AppKeys.bind.Goals as goal

pub returns-clause-hides : goal.returns-clause-hides
returns-clause-hides g c = added_hides_nothing c.in_ok-put_own.ensures.ok
