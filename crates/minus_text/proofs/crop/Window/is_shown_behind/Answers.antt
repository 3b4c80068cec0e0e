use Rattle.std.proofs.Common.{rules}
use Rattle.minus_text.proofs.crop.Window.is_shown_behind.Goals as goal

pub returns-else-last-eq0 : goal.returns-else-last-eq0
returns-else-last-eq0 c = search rules
