use Rattle.std.proofs.Common.{rules}
use Rattle.minus_text.proofs.store.kept.stay.Goals as goal

pub returns-then-cols-old_cols : goal.returns-then-cols-old_cols
returns-then-cols-old_cols c = search rules
