-- The bytes of the rows are written, or the sink refuses them.
use Rattle.std.proofs.Common.{map, ap, subst, rules, ◌∙◌, ◌++◌}
use Rattle.std.specs.Io.KnownBytes.{Appends}
use Rattle.minus_term.specs.Written.{written_all}
use Rattle.minus_draw.specs.WrittenRows.{lines_ops}
use Rattle.minus_draw.proofs.RefusalLaws.{write_refused}
use Rattle.minus_draw.proofs.written_rows.write_lines.Goals as goal

pub returns-in_err-draw_bytes-clause-err : goal.returns-in_err-draw_bytes-clause-err
returns-in_err-draw_bytes-clause-err g c =
    write_refused g.W.OutputSink.seen c.from_residual-in_err-draw_bytes.result c.in_err-draw_bytes.field-0.0 c.args.out.now c.draw_bytes.new.out _ _ c.from_residual-in_err-draw_bytes.ensures c.in_err-draw_bytes.ensures.err c.in_err-draw_bytes.ensures.rises (c.deref.ensures.value ∙ c.in_ok-push_lines.ensures ∙ ap (λ bs. bs ++ written_all (lines_ops c.args.wrapping c.args.cols c.args.left_mark c.args.numbers c.args.line_count (map g.L.AsStr.text c.args.lines.now))) c.new-bytes.ensures.items)

pub returns-clause-ok : goal.returns-clause-ok
returns-clause-ok g c = subst (λ bs. Appends (g.W.OutputSink.seen c.args.out.now).bytes (g.W.OutputSink.seen c.draw_bytes.new.out).bytes bs) (c.deref.ensures.value ∙ c.in_ok-push_lines.ensures ∙ ap (λ bs. bs ++ written_all (lines_ops c.args.wrapping c.args.cols c.args.left_mark c.args.numbers c.args.line_count (map g.L.AsStr.text c.args.lines.now))) c.new-bytes.ensures.items) c.in_ok-draw_bytes.ensures.ok

pub returns-clause-stays : goal.returns-clause-stays
returns-clause-stays g c = search rules
