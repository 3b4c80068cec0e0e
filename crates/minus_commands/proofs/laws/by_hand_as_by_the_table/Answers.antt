-- By the lines of the table.
use Rattle.minus_commands.proofs.ByHandLaws.{by_hand_lem}
use Rattle.minus_commands.proofs.laws.by_hand_as_by_the_table.Goals as goal

pub returns : goal.returns
returns g c = by_hand_lem _ _
