use Rattle.std.proofs.Common.{rules}
use Rattle.minus_text.proofs.search.escapes.following.Goals as goal

pub returns-then-end-clause-found : goal.returns-then-end-clause-found
returns-then-end-clause-found c = search rules

pub returns-else-end-clause-found : goal.returns-else-end-clause-found
returns-else-end-clause-found c = search rules
