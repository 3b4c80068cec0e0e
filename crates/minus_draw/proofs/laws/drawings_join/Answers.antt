-- The lists, one after the other.
use Rattle.minus_draw.proofs.JoinLaws.{drawings_join_lem}
use Rattle.minus_draw.proofs.laws.drawings_join.Goals as goal

pub returns : goal.returns
returns c = drawings_join_lem
