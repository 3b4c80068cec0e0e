use Rattle.std.proofs.Common.{rules}
use Rattle.minus_text.proofs.layout.Layout.plain.Goals as goal

pub returns : goal.returns
returns c = search rules
