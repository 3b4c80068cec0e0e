-- The law.
use Rattle.minus_term.proofs.SearchPromptLaws.{cursor_shows_lem}
use Rattle.minus_term.proofs.search_prompt.cursor_shows_its_page.Goals as goal

pub returns : goal.returns
returns c = cursor_shows_lem
