-- Play is monotone, and of the unknown screen nothing is known.
use Rattle.minus_term.proofs.PlayLaws.{unknown_stands_lem}
use Rattle.minus_term.proofs.draw.the_unknown_screen_stands_for_all.Goals as goal

pub returns : goal.returns
returns c = unknown_stands_lem
