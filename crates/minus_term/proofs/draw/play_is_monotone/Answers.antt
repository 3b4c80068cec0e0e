use Rattle.minus_term.proofs.PlayLaws.{play_is_monotone_lem}
use Rattle.minus_term.proofs.draw.play_is_monotone.Goals as goal

pub returns : goal.returns
returns c = play_is_monotone_lem
