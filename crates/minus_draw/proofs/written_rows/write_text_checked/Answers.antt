-- The bytes of the page are written, or the sink refuses them.
use Rattle.std.proofs.Common.{rules, map, ap, ◌∙◌}
use Rattle.minus_term.specs.Written.{written_all}
use Rattle.minus_draw.specs.WrittenRows.{text_ops}
use Rattle.minus_draw.proofs.RefusalLaws.{write_refused}
use Rattle.minus_draw.proofs.written_rows.write_text_checked.Goals as goal

pub returns-clause-ok : goal.returns-clause-ok
returns-clause-ok g c = search rules

pub returns-in_err-draw_bytes-clause-err : goal.returns-in_err-draw_bytes-clause-err
returns-in_err-draw_bytes-clause-err g c =
    write_refused g.W.OutputSink.seen c.from_residual-in_err-draw_bytes.result c.in_err-draw_bytes.field-0.0 c.args.out.now c.draw_bytes.new.out _ _ c.from_residual-in_err-draw_bytes.ensures c.in_err-draw_bytes.ensures.err c.in_err-draw_bytes.ensures.rises (c.deref.ensures.value ∙ (rw c.new-page.ensures.items at c.in_ok-push_text.ensures)
    ∙ ap (λ numbers. written_all (text_ops c.args.upper_mark c.args.rows c.args.wrapping c.args.cols c.args.left_mark numbers c.args.line_count (map g.L.AsStr.text c.args.lines.now))) c.is_on.ensures)
