-- The law.
use Rattle.minus_term.proofs.AppendLaws.{append_puts_lem}
use Rattle.minus_term.proofs.draw.append_puts_few.Goals as goal

pub returns : goal.returns
returns c = append_puts_lem
