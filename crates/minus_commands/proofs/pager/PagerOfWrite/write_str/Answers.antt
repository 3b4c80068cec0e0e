-- Found by search.
use Rattle.std.proofs.Common.{rules}
use Rattle.minus_commands.proofs.pager.PagerOfWrite.write_str.Goals as goal

pub returns-in-Ok-clause-ok : goal.returns-in-Ok-clause-ok
returns-in-Ok-clause-ok g c = search rules
