use Rattle.std.proofs.Common.{rules}
use Rattle.minus.proofs.session.Core.reserve.Goals as goal

pub returns-clause-seen : goal.returns-clause-seen
returns-clause-seen c = search rules
