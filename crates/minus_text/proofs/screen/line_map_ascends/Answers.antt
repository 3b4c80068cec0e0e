use Rattle.minus_text.proofs.DocumentLaws.{line_map-ascends}
use Rattle.minus_text.proofs.screen.line_map_ascends.Goals as goal

pub returns : goal.returns
returns c = line_map-ascends
