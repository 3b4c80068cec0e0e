-- Found by search.
use Rattle.std.proofs.Common.{rules}
use Rattle.minus.proofs.session.Core.mode.Goals as goal

pub returns-in-Running : goal.returns-in-Running
returns-in-Running g c = search rules
