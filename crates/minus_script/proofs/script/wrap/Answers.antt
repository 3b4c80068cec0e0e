use Rattle.std.proofs.Common.{rules}
use Rattle.minus_script.proofs.script.wrap.Goals as goal

pub returns : goal.returns
returns c = search rules
