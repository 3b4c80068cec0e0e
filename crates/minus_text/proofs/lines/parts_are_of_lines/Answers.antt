use Rattle.minus_text.proofs.LinePartsLaws.{parts_are}
use Rattle.minus_text.proofs.lines.parts_are_of_lines.Goals as goal

pub returns : goal.returns
returns c = parts_are
