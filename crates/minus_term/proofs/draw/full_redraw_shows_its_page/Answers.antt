use Rattle.minus_term.proofs.FullRedrawLaws.{full_redraw_lem}
use Rattle.minus_term.proofs.draw.full_redraw_shows_its_page.Goals as goal

pub returns : goal.returns
returns c = full_redraw_lem
