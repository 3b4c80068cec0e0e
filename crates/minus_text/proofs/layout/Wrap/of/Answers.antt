use Rattle.std.proofs.Common.{rules}
use Rattle.minus_text.proofs.layout.Wrap.of.Goals as goal

pub returns-else-wrapping : goal.returns-else-wrapping
returns-else-wrapping c = search rules
