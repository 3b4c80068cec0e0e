use Rattle.minus_text.proofs.DocumentLaws.{pushes-join}
use Rattle.minus_text.proofs.screen.pushes_join.Goals as goal

pub returns : goal.returns
returns c = pushes-join
