use Rattle.std.proofs.Common.{rules}
use Rattle.minus_text.proofs.crop.Window.is_shown.Goals as goal

pub returns-then-unit-eq0 : goal.returns-then-unit-eq0
returns-then-unit-eq0 c = search rules
