use Rattle.std.proofs.Common.{rules}
use Rattle.minus_text.proofs.store.told.Goals as goal

pub returns-clause-unfinished : goal.returns-clause-unfinished
returns-clause-unfinished c = search rules
