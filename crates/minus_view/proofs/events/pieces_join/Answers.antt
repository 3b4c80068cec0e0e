use Rattle.minus_view.proofs.EventLaws.{join_pieces}
use Rattle.minus_view.proofs.events.pieces_join.Goals as goal

pub returns : goal.returns
returns c = join_pieces
