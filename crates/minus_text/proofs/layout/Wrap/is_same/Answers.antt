use Rattle.std.proofs.Common.{rules}
use Rattle.minus_text.proofs.layout.Wrap.is_same.Goals as goal

pub returns-in-At-At : goal.returns-in-At-At
returns-in-At-At c = search rules
