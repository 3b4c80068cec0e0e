use Rattle.minus_text.proofs.DocumentLaws.{pieces_push_joined_lem}
use Rattle.minus_text.proofs.screen.pieces.pieces_push_joined.Goals as goal

pub returns : goal.returns
returns c = pieces_push_joined_lem
