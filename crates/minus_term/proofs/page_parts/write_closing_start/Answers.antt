-- The blank row, and the hidden cursor.
use Rattle.std.proofs.Common.{[], ◌∷◌}
use Rattle.minus_term.specs.Operations.{ClearRow, HideCursor}
use Rattle.minus_term.proofs.PartLaws.{at_row, cleared_hidden}
use Rattle.minus_term.proofs.page_parts.write_closing_start.Goals as goal

pub returns : goal.returns
returns c = at_row c.args.out.now.items c.push_at_row.new.out.items c.args.rows _ (ClearRow ∷ HideCursor ∷ []) c.in_ok-push_at_row.ensures cleared_hidden
