use Rattle.std.proofs.Common.{rules}
use Rattle.minus_script.proofs.script.parse_word.Goals as goal

pub returns : goal.returns
returns c = search rules
