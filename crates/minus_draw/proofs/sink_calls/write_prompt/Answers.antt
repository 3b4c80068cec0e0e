-- The bytes of the prompt row are written, or the sink refuses them.
use Rattle.std.proofs.Common.{ap, subst, ◌∙◌, ◌++◌}
use Rattle.std.specs.Io.KnownBytes.{Appends}
use Rattle.minus_term.specs.FullRedraw.{prompt_ops}
use Rattle.minus_term.specs.Written.{written_all}
use Rattle.minus_draw.proofs.RefusalLaws.{write_refused}
use Rattle.minus_draw.proofs.sink_calls.write_prompt.Goals as goal

pub returns-in_err-draw_bytes-clause-err : goal.returns-in_err-draw_bytes-clause-err
returns-in_err-draw_bytes-clause-err g c =
    write_refused g.W.OutputSink.seen c.from_residual-in_err-draw_bytes.result c.in_err-draw_bytes.field-0.0 c.args.out.now c.draw_bytes.new.out _ _ c.from_residual-in_err-draw_bytes.ensures c.in_err-draw_bytes.ensures.err c.in_err-draw_bytes.ensures.rises (c.deref.ensures.value ∙ c.in_ok-write_prompt_row.ensures ∙ ap (λ bs. bs ++ written_all (prompt_ops c.args.rows c.args.text.now)) c.new-bytes.ensures.items)

pub returns-clause-ok : goal.returns-clause-ok
returns-clause-ok g c = subst (λ bs. Appends (g.W.OutputSink.seen c.args.out.now).bytes (g.W.OutputSink.seen c.draw_bytes.new.out).bytes bs) (c.deref.ensures.value ∙ c.in_ok-write_prompt_row.ensures ∙ ap (λ bs. bs ++ written_all (prompt_ops c.args.rows c.args.text.now)) c.new-bytes.ensures.items) c.in_ok-draw_bytes.ensures.ok
