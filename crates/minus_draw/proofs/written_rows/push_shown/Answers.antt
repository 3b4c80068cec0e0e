use Rattle.std.proofs.Common.{rules}
use Rattle.minus_draw.proofs.written_rows.push_shown.Goals as goal

pub returns-then-style : goal.returns-then-style
returns-then-style c = search rules

pub returns : goal.returns
returns c = search rules
