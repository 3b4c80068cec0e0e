-- The last row of the page of the control that the change leads to.
use Rattle.std.proofs.Common.{ℕ, List, ◌++◌, sym, ap, ◌∙◌}
use Rattle.std.proofs.lemmas.Result.{on_ok_weaker}
use Rattle.minus_term.specs.Written.{written_all}
use Rattle.minus_draw.specs.Drawings.{last_row_ops}
use Rattle.minus_draw.specs.declared.drawings.LastRow.{LastRow}
use Rattle.minus_draw.proofs.drawings.push_last_row.Goals as goal

pub returns-in-Opening : goal.returns-in-Opening
returns-in-Opening c =
    let out : List ℕ = c.args.out.now.items in
    on_ok_weaker c.push_opening.result (λ e new h can same. e new h ∙ sym (ap (λ (r : LastRow). out ++ written_all (last_row_ops r new)) c.in-Opening.is)) c.push_opening.ensures

pub returns-in-Cursor : goal.returns-in-Cursor
returns-in-Cursor c =
    let out : List ℕ = c.args.out.now.items in
    on_ok_weaker c.push_cursor.result (λ e new h can same. e new h ∙ sym (ap (λ (r : LastRow). out ++ written_all (last_row_ops r new)) c.in-Cursor.is)) c.push_cursor.ensures
