-- By what was drawn on it.
use Rattle.minus.proofs.StartLaws.{redraw_leaves}
use Rattle.minus.proofs.exchange.an_exchange_leaves_its_page.Goals as goal

pub returns : goal.returns
returns g = redraw_leaves
