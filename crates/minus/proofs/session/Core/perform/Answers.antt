-- An input calls what its request calls.
use Rattle.minus.proofs.CalledLaws.{called_as}
use Rattle.minus.proofs.session.Core.perform.Goals as goal

pub returns-clause-called : goal.returns-clause-called
returns-clause-called g c = called_as _ c.args.input _ c.args.self.now c.execute.new.self c.in_ok-request.ensures.keeps c.in_ok-request.ensures.due c.in_ok-taken.ensures.called
