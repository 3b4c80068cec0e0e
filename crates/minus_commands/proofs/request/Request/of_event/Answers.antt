use Rattle.std.proofs.Common.{rules}
use Rattle.minus_commands.proofs.request.Request.of_event.Goals as goal

pub returns-in-NextMatch : goal.returns-in-NextMatch
returns-in-NextMatch g c = search rules
