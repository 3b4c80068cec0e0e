use Rattle.std.proofs.Common.{rules}
use Rattle.minus_state.proofs.showing.ShownRow.as_str.Goals as goal

pub returns-in-Formed : goal.returns-in-Formed
returns-in-Formed c = search rules
