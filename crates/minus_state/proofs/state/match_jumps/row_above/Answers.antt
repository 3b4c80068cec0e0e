use Rattle.std.proofs.Common.{rules}
use Rattle.minus_state.proofs.state.match_jumps.row_above.Goals as goal

pub returns-in-Some : goal.returns-in-Some
returns-in-Some c = search rules
