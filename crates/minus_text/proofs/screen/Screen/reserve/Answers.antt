use Rattle.std.proofs.Common.{rules}
use Rattle.minus_text.proofs.screen.Screen.reserve.Goals as goal

pub returns : goal.returns
returns c = search rules
