use Rattle.std.proofs.Common.{rules}
use Rattle.minus_input.proofs.default_answers.previous_match.Goals as goal

pub returns-in-Forward : goal.returns-in-Forward
returns-in-Forward c = search rules
