use Rattle.std.proofs.Common.{rules}
use Rattle.minus_input.proofs.default_answers.next_match.Goals as goal

pub returns-in-Reverse : goal.returns-in-Reverse
returns-in-Reverse c = search rules
