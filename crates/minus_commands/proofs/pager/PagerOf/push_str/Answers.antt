-- The command waits behind the others.
use Rattle.std.proofs.Common.{ap}
use Rattle.minus_commands.specs.Table.{appends_data}
use Rattle.minus_commands.proofs.pager.PagerOf.push_str.Goals as goal

pub returns-clause-ok : goal.returns-clause-ok
returns-clause-ok g c = (_, ap appends_data c.in_ok-from_str.ensures.ok, c.in_ok-queue.ensures.ok)
