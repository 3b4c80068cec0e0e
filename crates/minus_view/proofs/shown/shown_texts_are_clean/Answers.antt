use Rattle.minus_view.proofs.CleanLaws.{shown_clean}
use Rattle.minus_view.proofs.shown.shown_texts_are_clean.Goals as goal

pub returns : goal.returns
returns c = shown_clean
