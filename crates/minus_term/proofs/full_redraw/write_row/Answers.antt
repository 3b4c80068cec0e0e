-- The text between its ends.
use Rattle.std.proofs.Common.{ℕ, List, ◌++◌, ap, ◌∙◌}
use Rattle.minus_term.proofs.PartLaws.{row_put}
use Rattle.minus_term.proofs.full_redraw.write_row.Goals as goal

pub returns : goal.returns
returns c =
    let start = c.write_row_start.new.out.items in
    let text = c.in_ok-push_bytes.ensures.ok ∙ ap (λ (l : List ℕ). start ++ l) c.as_bytes.ensures.value in
    row_put c.args.out.now.items start c.push_bytes.new.out.items c.write_row_end.new.out.items c.args.row.now c.in_ok-write_row_start.ensures text c.in_ok-write_row_end.ensures
