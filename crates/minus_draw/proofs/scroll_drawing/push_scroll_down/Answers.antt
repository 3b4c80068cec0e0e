-- The move, the last rows and the prompt.
use Rattle.std.proofs.Common.{ℕ, ◌++◌, ◌-◌, [], ◌∷◌, List, drop, ap, ◌∙◌}
use Rattle.std.specs.List.{flat_map}
use Rattle.minus_term.specs.Operations.{Op, ScrollUp, GoTo, ClearRow}
use Rattle.minus_term.specs.FullRedraw.{row_ops, prompt_ops}
use Rattle.minus_term.specs.Written.{written_all}
use Rattle.minus_term.proofs.WrittenLaws.{ops_added}
use Rattle.minus_state.specs.Changes.{shown_by}
use Rattle.minus_state.specs.declared.change.Change.{Change}
use Rattle.minus_draw.proofs.scroll_drawing.push_scroll_down.Goals as goal

pub returns : goal.returns
returns c next =
    let change : Change = c.args.change.now in
    let old = c.args.out.now.items in
    let a = c.write_down_start.new.out.items in
    let b = c.write_after.new.out.items in
    let start : List Op = ScrollUp c.args.k ∷ GoTo 0 (change.rows - c.args.k - 1) ∷ ClearRow ∷ [] in
    let rows : List Op = flat_map row_ops (drop (change.rows - 1 - c.args.k) (shown_by c.args.state.now change)) in
    ops_added old b c.write_prompt_row.new.out.items (start ++ rows) (prompt_ops change.rows c.args.prompt.now) (ops_added old a b start rows c.in_ok-write_down_start.ensures (c.in_ok-write_after.ensures next ∙ ap (λ (n : ℕ). a ++ written_all (flat_map row_ops (drop (n - c.args.k) (shown_by c.args.state.now change)))) c.page_len.ensures)) c.in_ok-write_prompt_row.ensures
