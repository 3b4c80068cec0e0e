use Rattle.std.proofs.Common.{rules}
use Rattle.minus_script.proofs.program.ProgramFault.status.Goals as goal

pub returns-in-Script-Refused : goal.returns-in-Script-Refused
returns-in-Script-Refused c = search rules
