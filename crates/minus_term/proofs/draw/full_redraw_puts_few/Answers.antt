-- The law.
use Rattle.minus_term.proofs.PutsLaws.{full_puts_lem}
use Rattle.minus_term.proofs.draw.full_redraw_puts_few.Goals as goal

pub returns : goal.returns
returns c = full_puts_lem
