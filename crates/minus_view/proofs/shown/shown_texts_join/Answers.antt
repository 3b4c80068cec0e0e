use Rattle.minus_view.proofs.ShownLaws.{shown-nil, shown-append}
use Rattle.minus_view.proofs.shown.shown_texts_join.Goals as goal

pub returns : goal.returns
returns c = (shown-nil, shown-append)
