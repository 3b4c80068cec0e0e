use Rattle.std.proofs.Common.{rules}
use Rattle.minus_text.proofs.crop.Window.is_inside.Goals as goal

pub returns-then-at-self : goal.returns-then-at-self
returns-then-at-self c = search rules
