use Rattle.std.proofs.Common.{rules}
use Rattle.minus_term.proofs.error.MinusError.number.Goals as goal

pub returns-in-Failed : goal.returns-in-Failed
returns-in-Failed c = search rules
