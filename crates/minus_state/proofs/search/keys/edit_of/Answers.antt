use Rattle.std.proofs.Common.{rules}
use Rattle.minus_state.proofs.search.keys.edit_of.Goals as goal

pub returns-in-Key : goal.returns-in-Key
returns-in-Key c = search rules
