-- The start, the rows and the prompt.
use Rattle.std.proofs.Common.{◌++◌, [], ◌∷◌, List}
use Rattle.std.specs.List.{flat_map}
use Rattle.minus_term.specs.Operations.{Op, GoTo, ClearAll}
use Rattle.minus_term.specs.FullRedraw.{row_ops, prompt_ops}
use Rattle.minus_term.proofs.WrittenLaws.{ops_added}
use Rattle.minus_state.specs.Changes.{shown_by}
use Rattle.minus_state.specs.declared.change.Change.{Change}
use Rattle.minus_draw.proofs.page_drawing.push_page.Goals as goal

pub returns : goal.returns
returns c next =
    let change : Change = c.args.change.now in
    let old = c.args.out.now.items in
    let a = c.write_page_start.new.out.items in
    let b = c.write_after.new.out.items in
    let start : List Op = GoTo 0 0 ∷ ClearAll ∷ [] in
    let rows : List Op = flat_map row_ops (shown_by c.args.state.now change) in
    ops_added old b c.write_prompt_row.new.out.items (start ++ rows) (prompt_ops change.rows c.args.prompt.now) (ops_added old a b start rows c.in_ok-write_page_start.ensures (c.in_ok-write_after.ensures next)) c.in_ok-write_prompt_row.ensures
