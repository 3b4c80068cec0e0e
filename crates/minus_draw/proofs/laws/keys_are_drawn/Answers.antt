-- By what the editor reports the key.
use Rattle.minus_draw.proofs.KeyLaws.{keys_are_drawn_lem}
use Rattle.minus_draw.proofs.laws.keys_are_drawn.Goals as goal

pub returns : goal.returns
returns c = keys_are_drawn_lem
