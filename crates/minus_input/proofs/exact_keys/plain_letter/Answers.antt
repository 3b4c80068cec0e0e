use Rattle.std.proofs.Common.{rules}
use Rattle.minus_input.proofs.exact_keys.plain_letter.Goals as goal

pub returns-in-p : goal.returns-in-p
returns-in-p c = search rules
