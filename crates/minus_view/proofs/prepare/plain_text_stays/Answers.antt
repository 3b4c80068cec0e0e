use Rattle.minus_view.proofs.ExpandedLaws.{plain_stays}
use Rattle.minus_view.proofs.prepare.plain_text_stays.Goals as goal

pub returns : goal.returns
returns c = plain_stays
