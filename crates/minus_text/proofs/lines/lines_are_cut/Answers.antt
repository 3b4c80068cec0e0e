use Rattle.minus_text.proofs.LinesLaws.{lines-cut}
use Rattle.minus_text.proofs.lines.lines_are_cut.Goals as goal

pub returns : goal.returns
returns c = lines-cut
