-- No line yet, and one more line.
use Rattle.minus_draw.specs.WrittenRows.{written_row}
use Rattle.minus_term.proofs.WrittenLaws.{no_op}
use Rattle.minus_draw.proofs.WrittenRowsLaws.{lines_more}
use Rattle.minus_draw.proofs.written_rows.push_lines.Goals as goal

pub loop-line-init : goal.loop-line-init
loop-line-init g c = no_op c.args.bytes.now.items

pub loop-line-preserved : goal.loop-line-preserved
loop-line-preserved g c =
    let s = c.args.style in
    lines_more (written_row s.wrapping s.cols s.left_mark s.numbers s.line_count) g.L.AsStr.text c.args.lines.now c.loop-line.line-index _ c.line-item.result c.as_str.result.now c.args.bytes.now.items c.loop-line.bytes.items
    c.push_shown.new.bytes.items c.loop-line-test.true c.loop-line.invariant c.line-item.is c.as_str.ensures c.in_ok-push_shown.ensures
