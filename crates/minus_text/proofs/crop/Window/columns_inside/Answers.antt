use Rattle.std.proofs.Common.{rules}
use Rattle.minus_text.proofs.crop.Window.columns_inside.Goals as goal

pub returns : goal.returns
returns c = search rules
