use Rattle.std.proofs.Common.{rules}
use Rattle.minus_text.proofs.seams.stands_alone.Goals as goal

pub returns-else-goes_on : goal.returns-else-goes_on
returns-else-goes_on c = search rules
