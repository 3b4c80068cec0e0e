use Rattle.std.proofs.Common.{ℕ, ◌++◌, List, map, take, string_bytes, get_or, sym, ap, ◌∙◌}
use Rattle.std.proofs.lemmas.List.{append_assoc, map_more}
use Rattle.std.proofs.lemmas.Result.{err_from_is_err_and}
use Rattle.minus_script.specs.Printed.{printed, printed_all}
use Rattle.minus_script.proofs.PrintedLaws.{starts_with_front, printed_one_more}
use Rattle.minus_script.proofs.printed.print_rows.Goals as goal

pub returns-in_err-print_row-clause-err : goal.returns-in_err-print_row-clause-err
returns-in_err-print_row-clause-err c =
    let p = err_from_is_err_and c.from_residual.result c.from_residual.ensures.1 in
    rw p.1 (starts_with_front c.print_row.new.out.items c.args.out.now.items (printed_all (map string_bytes (take c.loop-row.row-index c.args.rows.now))) (rw c.loop-row.invariant at c.in_err-print_row.ensures.err))

pub loop-row-preserved : goal.loop-row-preserved
loop-row-preserved c =
    let before = c.args.out.now.items in
    let rows : List (List ℕ) = map string_bytes (take c.loop-row.row-index c.args.rows.now) in
    let row : List ℕ = string_bytes (get_or c.args.rows.now c.loop-row.row-index c.row-item.result) in
    c.in_ok-print_row.ensures.ok ∙ ap (λ x. c.loop-row.out.items ++ printed x) (c.as_str.ensures.value ∙ ap string_bytes c.row-item.is)
    ∙ ap (λ x. x ++ printed row) c.loop-row.invariant ∙ append_assoc before (printed_all rows) (printed row)
    ∙ ap (λ x. before ++ x) (sym (printed_one_more rows row) ∙ ap printed_all (sym (map_more string_bytes c.args.rows.now c.loop-row.row-index c.row-item.result c.loop-row-test.true)))
