use Rattle.std.proofs.Common.{rules}
use Rattle.minus_state.proofs.line_bounds.gone_on.Goals as goal

pub returns-in-Some : goal.returns-in-Some
returns-in-Some c = search rules
