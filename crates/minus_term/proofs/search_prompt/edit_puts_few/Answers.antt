-- The law.
use Rattle.minus_term.proofs.PutsLaws.{edit_puts_lem}
use Rattle.minus_term.proofs.search_prompt.edit_puts_few.Goals as goal

pub returns : goal.returns
returns c = edit_puts_lem
