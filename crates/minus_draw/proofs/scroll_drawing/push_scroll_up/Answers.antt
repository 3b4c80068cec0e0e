-- The move, the first rows and the prompt.
use Rattle.std.proofs.Common.{◌++◌, [], ◌∷◌, List, take}
use Rattle.std.specs.List.{flat_map}
use Rattle.minus_term.specs.Operations.{Op, ScrollDown, GoTo}
use Rattle.minus_term.specs.FullRedraw.{row_ops, prompt_ops}
use Rattle.minus_term.proofs.WrittenLaws.{ops_added}
use Rattle.minus_state.specs.Changes.{shown_by}
use Rattle.minus_state.specs.declared.change.Change.{Change}
use Rattle.minus_draw.proofs.scroll_drawing.push_scroll_up.Goals as goal

pub returns : goal.returns
returns c next =
    let change : Change = c.args.change.now in
    let old = c.args.out.now.items in
    let a = c.write_up_start.new.out.items in
    let b = c.write_between.new.out.items in
    let start : List Op = ScrollDown c.args.k ∷ GoTo 0 0 ∷ [] in
    let rows : List Op = flat_map row_ops (take c.args.k (shown_by c.args.state.now change)) in
    ops_added old b c.write_prompt_row.new.out.items (start ++ rows) (prompt_ops change.rows c.args.prompt.now) (ops_added old a b start rows c.in_ok-write_up_start.ensures (c.in_ok-write_between.ensures next)) c.in_ok-write_prompt_row.ensures
