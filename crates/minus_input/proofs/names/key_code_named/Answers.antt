use Rattle.std.proofs.Common.{rules}
use Rattle.minus_input.proofs.names.key_code_named.Goals as goal

pub returns-in-len1 : goal.returns-in-len1
returns-in-len1 c = search rules
