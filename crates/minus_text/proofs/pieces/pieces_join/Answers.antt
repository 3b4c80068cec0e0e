use Rattle.minus_text.proofs.PiecesLaws.{pieces_join_lem}
use Rattle.minus_text.proofs.pieces.pieces_join.Goals as goal

pub returns : goal.returns
returns c = pieces_join_lem
