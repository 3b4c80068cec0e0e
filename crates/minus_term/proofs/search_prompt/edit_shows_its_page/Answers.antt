-- The law.
use Rattle.minus_term.proofs.SearchPromptLaws.{edit_shows_lem}
use Rattle.minus_term.proofs.search_prompt.edit_shows_its_page.Goals as goal

pub returns : goal.returns
returns c = edit_shows_lem
