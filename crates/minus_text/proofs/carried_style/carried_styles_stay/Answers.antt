use Rattle.minus_text.proofs.PushedPlacesLaws.{styles_stay_behind}
use Rattle.minus_text.proofs.carried_style.carried_styles_stay.Goals as goal

pub returns : goal.returns
returns c = styles_stay_behind
