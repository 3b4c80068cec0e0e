use Rattle.std.proofs.Common.{rules}
use Rattle.minus_state.proofs.search.query.QueryEditor.feed.Goals as goal

pub returns-else-self-eq1-clause-new : goal.returns-else-self-eq1-clause-new
returns-else-self-eq1-clause-new c = search rules

pub returns-in-Confirms-clause-told : goal.returns-in-Confirms-clause-told
returns-in-Confirms-clause-told c = search rules
