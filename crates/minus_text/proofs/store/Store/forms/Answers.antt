use Rattle.std.proofs.Common.{rules}
use Rattle.minus_text.proofs.store.Store.forms.Goals as goal

pub returns-in-Some-clause-start : goal.returns-in-Some-clause-start
returns-in-Some-clause-start c = search rules

pub returns-in-Some-clause-tail : goal.returns-in-Some-clause-tail
returns-in-Some-clause-tail c = search rules
