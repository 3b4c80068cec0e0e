-- The law.
use Rattle.minus_term.proofs.SearchPromptLaws.{closing_shows_lem}
use Rattle.minus_term.proofs.search_prompt.closing_shows_its_page.Goals as goal

pub returns : goal.returns
returns c = closing_shows_lem
