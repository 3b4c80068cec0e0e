-- The move of the rows, and the blank row.
use Rattle.std.proofs.Common.{◌-◌, [], ◌∷◌}
use Rattle.minus_term.specs.Operations.{ClearRow, GoTo, ScrollUp}
use Rattle.minus_term.proofs.PartLaws.{at_row, cleared, scrolled_up}
use Rattle.minus_term.proofs.WrittenLaws.{ops_added}
use Rattle.minus_term.proofs.page_parts.write_down_start.Goals as goal

pub returns : goal.returns
returns c =
    let row = c.args.rows - c.args.k - 1 in
    let blank = at_row c.push_scroll.new.out.items c.push_at_row.new.out.items row _ (ClearRow ∷ []) c.in_ok-push_at_row.ensures cleared in
    ops_added c.args.out.now.items c.push_scroll.new.out.items c.push_at_row.new.out.items (ScrollUp c.args.k ∷ []) (GoTo 0 row ∷ ClearRow ∷ []) (scrolled_up _ _ c.args.k c.in_ok-push_scroll.ensures.ok) blank
