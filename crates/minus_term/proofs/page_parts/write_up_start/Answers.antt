-- The move of the rows, and the first row.
use Rattle.std.proofs.Common.{[], ◌∷◌}
use Rattle.minus_term.specs.Operations.{GoTo, ScrollDown}
use Rattle.minus_term.proofs.PartLaws.{scrolled_down}
use Rattle.minus_term.proofs.WrittenLaws.{op_added}
use Rattle.minus_term.proofs.page_parts.write_up_start.Goals as goal

pub returns : goal.returns
returns c = op_added c.args.out.now.items c.push_scroll.new.out.items c.push_go_to.new.out.items (ScrollDown c.args.k ∷ []) (GoTo 0 0) (scrolled_down _ _ c.args.k c.in_ok-push_scroll.ensures.ok) c.in_ok-push_go_to.ensures.ok
