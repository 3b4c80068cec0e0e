use Rattle.minus_view.proofs.EventLaws.{one_list}
use Rattle.minus_view.proofs.events.units_are_determined.Goals as goal

pub returns : goal.returns
returns c = one_list
