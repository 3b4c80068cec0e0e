-- A line behind the first few is counted from these on.
use Rattle.std.proofs.Common.{◌≡◌, ◌<◌, ◌≤◌, ℕ, List, length, take, get_or, ap, arith, ◌∙◌}
use Rattle.std.proofs.lemmas.Grind.{get_or_default_zero}
use Rattle.std.proofs.lemmas.List.{length-take-le}
use Rattle.minus_text.proofs.LineMapLaws.{line_behind}
use Rattle.minus_text.proofs.lines_row_map.LinesRowMap.line_in.Goals as goal

pub returns-in-Some-found-2 : goal.returns-in-Some-found-2
returns-in-Some-found-2 c =
    let behind = c.args.behind.now in
    let later = c.in-Some-found-2.later in
    let entries = c.behind.inside.first_rows.items in
    let within : later < length entries = rw c.behind.view_is c.in-Some-found-2.ensures.within in
    let read : c.index.result.now ≡ get_or behind later 0 =
    c.index.ensures ∙ get_or_default_zero entries later c.index.result.now within ∙ ap (λ (xs : List ℕ). get_or xs later 0) c.behind.view_is in
    let before : get_or behind later 0 ≤ c.args.row = omega (arith, read, c.if-index-row.true) in
    line_behind (take c.args.keep c.args.self.now) behind c.args.keep c.args.row later _ (length-take-le c.args.keep c.args.self.now c.requires) before c.in-Some-found-2.ensures c.begins-in-Some-found-2.ensures
