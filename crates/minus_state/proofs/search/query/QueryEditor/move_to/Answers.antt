use Rattle.std.proofs.Common.{rules}
use Rattle.minus_state.proofs.search.query.QueryEditor.move_to.Goals as goal

pub returns-clause-told : goal.returns-clause-told
returns-clause-told c = search rules
