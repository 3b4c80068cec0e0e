use Rattle.std.proofs.Common.{arith}
use Rattle.minus_text.proofs.LineSplitLaws.{rows_lower}
use Rattle.minus_text.proofs.search.line_splits.stretch_at.Goals as goal

pub first_start-requires-clause-rows : goal.first_start-requires-clause-rows
first_start-requires-clause-rows c = rows_lower _ _ c.args.rest.now (let on = c.go_to-end.ensures.on in omega (arith, on)) c.requires.rows
