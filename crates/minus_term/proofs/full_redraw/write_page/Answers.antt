-- The start, the rows and the prompt.
use Rattle.std.proofs.Common.{◌++◌, [], ◌∷◌, List, map}
use Rattle.std.specs.List.{flat_map}
use Rattle.minus_term.specs.Operations.{Op, GoTo, ClearAll}
use Rattle.minus_term.specs.FullRedraw.{row_ops, prompt_ops}
use Rattle.minus_term.proofs.WrittenLaws.{ops_added}
use Rattle.minus_term.proofs.full_redraw.write_page.Goals as goal

pub returns : goal.returns
returns g c =
    let old = c.args.out.now.items in
    let a = c.write_page_start.new.out.items in
    let b = c.push_rows.new.out.items in
    let start : List Op = GoTo 0 0 ∷ ClearAll ∷ [] in
    let rows : List Op = flat_map row_ops (map g.R.AsStr.text c.args.shown.now) in
    ops_added old b c.write_prompt_row.new.out.items (start ++ rows) (prompt_ops c.args.rows c.args.prompt.now) (ops_added old a b start rows c.in_ok-write_page_start.ensures c.in_ok-push_rows.ensures) c.in_ok-write_prompt_row.ensures
