-- By the lines of the table.
use Rattle.minus_commands.proofs.TableLaws.{resizes_full_lem}
use Rattle.minus_commands.proofs.laws.resizes_are_full.Goals as goal

pub returns : goal.returns
returns g c = resizes_full_lem
