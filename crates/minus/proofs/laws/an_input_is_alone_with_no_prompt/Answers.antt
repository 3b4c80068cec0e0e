-- By what was performed.
use Rattle.minus.proofs.WorksLaws.{alone_lem}
use Rattle.minus.proofs.laws.an_input_is_alone_with_no_prompt.Goals as goal

pub returns : goal.returns
returns g c = alone_lem _
