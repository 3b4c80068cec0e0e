-- The row and the cursor, and the page.
use Rattle.std.proofs.Common.{[], ◌∷◌}
use Rattle.minus_term.specs.FullRedraw.{full_ops}
use Rattle.minus_term.specs.Operations.{GoTo, ClearRow, HideCursor}
use Rattle.minus_term.proofs.WrittenLaws.{ops_added}
use Rattle.minus_state.specs.Changes.{shown_by}
use Rattle.minus_state.specs.declared.change.Change.{Change}
use Rattle.minus_draw.proofs.search_prompt_drawing.push_closing.Goals as goal

pub returns : goal.returns
returns c next =
    let change : Change = c.args.change.now in
    ops_added _ _ _ (GoTo 0 change.rows ∷ ClearRow ∷ HideCursor ∷ []) (full_ops change.rows (shown_by c.args.state.now change) c.args.prompt.now) c.in_ok-write_closing_start.ensures (c.in_ok-push_page.ensures next)
