-- The bytes of the rows are written, or the sink refuses them.
use Rattle.std.proofs.Common.{ap, ◌∙◌, ◌++◌}
use Rattle.minus_term.specs.Written.{written_all}
use Rattle.minus_draw.specs.Drawings.{append_from}
use Rattle.minus_state.specs.States.{control_of}
use Rattle.minus_state.proofs.ChangeLaws.{unchanged}
use Rattle.minus_draw.proofs.RefusalLaws.{formed_write_refused}
use Rattle.minus_draw.proofs.sink_calls.draw_append_text.Goals as goal

pub returns-in_err-draw_bytes-clause-err : goal.returns-in_err-draw_bytes-clause-err
returns-in_err-draw_bytes-clause-err g c =
    let s = c.args.state.now in
    let same = unchanged s c.redrawn-change.result _ c.redrawn-change.ensures.is in
    let ops = append_from (control_of s) c.args.first c.args.old_count in
    formed_write_refused g.W.OutputSink.seen c.from_residual-in_err-draw_bytes.result c.in_err-draw_bytes.field-0.0 s c.args.out.now c.draw_bytes.new.out _ _ c.from_residual-in_err-draw_bytes.ensures c.in_err-draw_bytes.ensures.err c.in_err-draw_bytes.ensures.rises
    (λ f. c.deref.ensures.value ∙ c.in_ok-push_append.ensures f _ same ∙ ap (λ bs. bs ++ written_all ops) c.new-bytes.ensures.items)

pub returns-clause-ok : goal.returns-clause-ok
returns-clause-ok g c =
    let s = c.args.state.now in
    let same = unchanged s c.redrawn-change.result _ c.redrawn-change.ensures.is in
    let ops = append_from (control_of s) c.args.first c.args.old_count in
    (_, λ f. c.deref.ensures.value ∙ c.in_ok-push_append.ensures f _ same ∙ ap (λ bs. bs ++ written_all ops) c.new-bytes.ensures.items, c.in_ok-draw_bytes.ensures.ok)
