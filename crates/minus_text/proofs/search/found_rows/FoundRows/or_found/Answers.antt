-- What stands is kept.
use Rattle.std.proofs.Common.{rules}
use Rattle.minus_text.proofs.search.found_rows.FoundRows.or_found.Goals as goal

pub returns-then-branch-clause-stand : goal.returns-then-branch-clause-stand
returns-then-branch-clause-stand c = record { placed = search rules; ascend = c.requires.ascend }
