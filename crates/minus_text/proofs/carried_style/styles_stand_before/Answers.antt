use Rattle.minus_text.proofs.CarriedStyleLaws.{styles_stand_before}
use Rattle.minus_text.proofs.carried_style.styles_stand_before.Goals as goal

pub returns : goal.returns
returns c = styles_stand_before
