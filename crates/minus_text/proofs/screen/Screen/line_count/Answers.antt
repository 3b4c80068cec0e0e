use Rattle.std.proofs.Common.{rules}
use Rattle.minus_text.proofs.screen.Screen.line_count.Goals as goal

pub returns : goal.returns
returns c = search rules
