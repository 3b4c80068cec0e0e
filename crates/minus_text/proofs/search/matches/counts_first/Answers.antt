use Rattle.std.proofs.Common.{rules}
use Rattle.minus_text.proofs.search.matches.counts_first.Goals as goal

pub returns-then-jump-eq0 : goal.returns-then-jump-eq0
returns-then-jump-eq0 c = search rules
