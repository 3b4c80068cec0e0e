use Rattle.std.proofs.Common.{rules}
use Rattle.minus_text.proofs.screen.Screen.match_row.Goals as goal

pub returns : goal.returns
returns c = search rules
