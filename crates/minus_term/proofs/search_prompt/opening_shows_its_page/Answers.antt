-- The law.
use Rattle.minus_term.proofs.SearchPromptLaws.{opening_shows_lem}
use Rattle.minus_term.proofs.search_prompt.opening_shows_its_page.Goals as goal

pub returns : goal.returns
returns c = opening_shows_lem
