-- The last of them stands above, and the next does not.
use Rattle.std.proofs.Common.{arith}
use Rattle.minus_text.proofs.FoundInLaws.{above_here}
use Rattle.minus_text.proofs.search.found_rows.are_above.Goals as goal

pub returns-clause-value : goal.returns-clause-value
returns-clause-value c =
    λ is. above_here c.args.row c.args.found.now c.args.count c.requires (omega (arith, c.if-count-found.false)) (c.is_last_above.ensures c.if-not-is_last_above.false) (c.is_next_not_above.ensures is)
