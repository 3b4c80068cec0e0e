use Rattle.std.proofs.Common.{rules}
use Rattle.minus_text.proofs.formed.Formed.longest_behind.Goals as goal

pub returns : goal.returns
returns c = search rules
