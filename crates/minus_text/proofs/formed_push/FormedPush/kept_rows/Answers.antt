use Rattle.std.proofs.Common.{rules}
use Rattle.minus_text.proofs.formed_push.FormedPush.kept_rows.Goals as goal

pub returns-clause-value : goal.returns-clause-value
returns-clause-value c = search rules

pub returns-clause-few : goal.returns-clause-few
returns-clause-few c = let few = c.self.invariant.0.1 in search (rules, few)
