use Rattle.std.proofs.Common.{rules}
use Rattle.minus.proofs.init.MinusErrorFromStartErrorOf.from.Goals as goal

pub returns : goal.returns
returns g c = search rules
