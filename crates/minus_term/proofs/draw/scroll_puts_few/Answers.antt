-- The law.
use Rattle.minus_term.proofs.ScrollLaws.{scroll_puts_lem}
use Rattle.minus_term.proofs.draw.scroll_puts_few.Goals as goal

pub returns : goal.returns
returns c = scroll_puts_lem
