use Rattle.std.proofs.Common.{rules}
use Rattle.minus_draw.proofs.drawings.Drawing.of.Goals as goal

pub returns-in-Appended : goal.returns-in-Appended
returns-in-Appended c = search rules

pub returns-in-Stays : goal.returns-in-Stays
returns-in-Stays c = search rules
