use Rattle.minus_view.proofs.HistoryLaws.{steps_back}
use Rattle.minus_view.proofs.history.steps_lead_back.Goals as goal

pub returns : goal.returns
returns c = steps_back
