use Rattle.std.proofs.Common.{rules}
use Rattle.minus_text.proofs.store.Store.margin_after.Goals as goal

pub returns : goal.returns
returns c = search rules
