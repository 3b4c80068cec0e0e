-- The law.
use Rattle.minus_term.proofs.SearchPromptLaws.{opening_puts_lem}
use Rattle.minus_term.proofs.search_prompt.opening_puts_none.Goals as goal

pub returns : goal.returns
returns c = opening_puts_lem
