-- The bytes before the start and the setup come first.
use Rattle.minus.proofs.StartLaws.{start_leaves}
use Rattle.minus.proofs.init.a_start_leaves_its_page.Goals as goal

pub returns : goal.returns
returns c = start_leaves
