use Rattle.minus_input.proofs.DescriptionLaws.{each_text}
use Rattle.minus_input.proofs.description.each_text_has_one_meaning.Goals as goal

pub returns : goal.returns
returns c = each_text
