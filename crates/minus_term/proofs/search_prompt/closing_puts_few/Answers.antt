-- The law.
use Rattle.minus_term.proofs.PutsLaws.{closing_puts_lem}
use Rattle.minus_term.proofs.search_prompt.closing_puts_few.Goals as goal

pub returns : goal.returns
returns c = closing_puts_lem
