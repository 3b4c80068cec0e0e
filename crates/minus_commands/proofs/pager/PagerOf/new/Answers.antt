-- Found by search.
use Rattle.std.proofs.Common.{rules}
use Rattle.minus_commands.proofs.pager.PagerOf.new.Goals as goal

pub returns : goal.returns
returns g c = search rules
