use Rattle.std.proofs.Common.{rules}
use Rattle.minus_state.proofs.line_bounds.is_seen.Goals as goal

pub returns : goal.returns
returns c = search rules
