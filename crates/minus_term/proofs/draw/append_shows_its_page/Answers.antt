-- The law.
use Rattle.minus_term.proofs.AppendLaws.{append_shows_lem}
use Rattle.minus_term.proofs.draw.append_shows_its_page.Goals as goal

pub returns : goal.returns
returns c = append_shows_lem
