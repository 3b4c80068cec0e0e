-- What was saved returns.
use Rattle.minus_commands.proofs.HelpLaws.{no_trace_lem}
use Rattle.minus_commands.proofs.laws.help_leaves_no_trace.Goals as goal

pub returns : goal.returns
returns g c = no_trace_lem
