-- The bytes of the page are written, or the sink refuses them.
use Rattle.std.proofs.Common.{ap, ◌∙◌}
use Rattle.minus_state.specs.Control.{Control}
use Rattle.minus_state.specs.States.{control_of}
use Rattle.minus_draw.proofs.RefusalLaws.{formed_write_refused}
use Rattle.minus_draw.proofs.sink_calls.write_from_pagerstate.Goals as goal

pub returns-in_err-draw_bytes-clause-err : goal.returns-in_err-draw_bytes-clause-err
returns-in_err-draw_bytes-clause-err g c =
    formed_write_refused g.W.OutputSink.seen c.from_residual-in_err-draw_bytes.result c.in_err-draw_bytes.field-0.0 c.args.state.now c.args.out.now c.draw_bytes.new.out _ _ c.from_residual-in_err-draw_bytes.ensures c.in_err-draw_bytes.ensures.err c.in_err-draw_bytes.ensures.rises (λ f. c.deref.ensures.value ∙ c.in_ok-mark.ensures.bytes f)

pub returns-clause-control : goal.returns-clause-control
returns-clause-control g c f =
    let state : Control = control_of c.args.state.now in
    ap (λ m. record state { mark = m }) (c.in_ok-mark.ensures.mark f)

pub returns-clause-ok : goal.returns-clause-ok
returns-clause-ok g c = (_, λ f. c.deref.ensures.value ∙ c.in_ok-mark.ensures.bytes f, c.in_ok-draw_bytes.ensures.ok)
