use Rattle.std.proofs.Common.{ℕ, ◌<◌, List, length, Ok, Err, arith}
use Rattle.std.proofs.lemmas.List.Sorted.{searched}
use Rattle.minus_text.proofs.LineMapLaws.{ascends_to, line_found, line_before}
use Rattle.minus_text.proofs.lines_row_map.line_of_row.Goals as goal

pub returns-in-Ok : goal.returns-in-Ok
returns-in-Ok c =
    let xs : List ℕ = c.args.first_rows.now in
    let found = searched xs c.args.row (Ok c.in-Ok.line) c.in-Ok.ensures.position (ascends_to xs c.requires) in
    line_found xs c.args.row c.in-Ok.line c.requires found.0 found.1

pub returns-in-Err : goal.returns-in-Err
returns-in-Err c =
    let xs : List ℕ = c.args.first_rows.now in
    let found = searched xs c.args.row (Err c.in-Err.after) c.in-Err.ensures.position (ascends_to xs c.requires) in
    let some : 0 < length xs = grind arith in
    rw c.saturating_sub.ensures (line_before xs c.args.row c.in-Err.after some found.0 found.1 found.2)
