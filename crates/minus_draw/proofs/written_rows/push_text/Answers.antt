-- The screen is cleared, and the lines are put.
use Rattle.std.proofs.Common.{◌≡◌, ◌++◌, [], ◌∷◌, List, map, sym, ap, ◌∙◌}
use Rattle.minus_term.specs.Operations.{Op, GoTo, ClearAll}
use Rattle.minus_term.specs.Written.{written_all}
use Rattle.minus_draw.specs.WrittenRows.{lines_ops, lines_of_page}
use Rattle.minus_term.proofs.WrittenLaws.{ops_added}
use Rattle.minus_draw.proofs.WrittenRowsLaws.{page_mapped}
use Rattle.minus_draw.proofs.written_rows.push_text.Goals as goal

pub returns : goal.returns
returns g c =
    let s = c.args.style in
    let old = c.args.bytes.now.items in
    let b = c.write_page_start.new.out.items in
    let start : List Op = GoTo 0 0 ∷ ClearAll ∷ [] in
    let page = lines_of_page c.args.upper_mark c.args.rows (map g.L.AsStr.text c.args.lines.now) in
    let texts : map g.L.AsStr.text c.lines_of_page.result.now ≡ page = ap (map g.L.AsStr.text) c.lines_of_page.ensures ∙ page_mapped g.L.AsStr.text c.args.upper_mark c.args.rows c.args.lines.now in
    let put : c.push_lines.new.bytes.items ≡ b ++ written_all (lines_ops s.wrapping s.cols s.left_mark s.numbers s.line_count page) = rw (sym texts) c.in_ok-push_lines.ensures in
    ops_added old b c.push_lines.new.bytes.items start (lines_ops s.wrapping s.cols s.left_mark s.numbers s.line_count page) c.in_ok-write_page_start.ensures put
