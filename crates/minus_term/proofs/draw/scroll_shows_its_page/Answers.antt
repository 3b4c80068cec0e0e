-- The law.
use Rattle.minus_term.proofs.ScrollLaws.{scroll_shows_lem}
use Rattle.minus_term.proofs.draw.scroll_shows_its_page.Goals as goal

pub returns : goal.returns
returns c = scroll_shows_lem
