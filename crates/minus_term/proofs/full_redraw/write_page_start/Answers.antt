-- The first row, and the blank rows.
use Rattle.std.proofs.Common.{[], ◌∷◌}
use Rattle.minus_term.specs.Operations.{ClearAll}
use Rattle.minus_term.proofs.PartLaws.{at_row, cleared_all}
use Rattle.minus_term.proofs.full_redraw.write_page_start.Goals as goal

pub returns : goal.returns
returns c = at_row c.args.out.now.items c.push_at_row.new.out.items 0 _ (ClearAll ∷ []) c.in_ok-push_at_row.ensures cleared_all
