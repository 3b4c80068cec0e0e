-- The setup, a beginning of the drawing, and the cleanup as far as the sink took it.
use Rattle.minus_term.specs.Counts.{Rises}
use Rattle.minus_term.specs.Refusals.{refusal_of}
use Rattle.minus_state.proofs.RefusalLaws.{passed_on}
use Rattle.minus.specs.Starts.{IsShowRefused, IsStartFault, ShowBreaksOff}
use Rattle.minus.proofs.StartLaws.{on_terminal, drawing_refused}
use Rattle.minus.proofs.init.show.Goals as goal

pub returns-in_err-draw-clause-refused : goal.returns-in_err-draw-clause-refused
returns-in_err-draw-clause-refused g c =
    let seen = g.S.OutputSink.seen in
    let e = c.in_err-draw.field-0.0 in
    passed_on c.from_residual-in_err-draw.result (λ x. IsShowRefused (refusal_of x) (seen c.args.sink.now).terminal) e c.from_residual-in_err-draw.ensures
    (drawing_refused (refusal_of e) _ _ _ _ _ _ _ _ c.in_err-draw.ensures.cause (on_terminal (seen c.args.sink.now).terminal c.in_ok-setup.ensures.terminal.1) c.in_ok-setup.ensures.ok c.in_ok-setup.ensures.stays c.in_err-draw.ensures.broken c.in_err-draw.ensures.rises).0

pub returns-in_err-draw-clause-broken : goal.returns-in_err-draw-clause-broken
returns-in_err-draw-clause-broken g c =
    let seen = g.S.OutputSink.seen in
    let e = c.in_err-draw.field-0.0 in
    passed_on c.from_residual-in_err-draw.result (λ x. ShowBreaksOff (refusal_of x) (seen c.args.sink.now).bytes (seen c.draw.new.sink).bytes (seen c.args.sink.now).refusals (seen c.draw.new.sink).refusals c.args.drawing.now) e c.from_residual-in_err-draw.ensures
    (drawing_refused (refusal_of e) _ _ _ _ _ _ _ _ c.in_err-draw.ensures.cause (on_terminal (seen c.args.sink.now).terminal c.in_ok-setup.ensures.terminal.1) c.in_ok-setup.ensures.ok c.in_ok-setup.ensures.stays c.in_err-draw.ensures.broken c.in_err-draw.ensures.rises).1

pub returns-in_err-draw-clause-rises : goal.returns-in_err-draw-clause-rises
returns-in_err-draw-clause-rises g c =
    let seen = g.S.OutputSink.seen in
    let e = c.in_err-draw.field-0.0 in
    passed_on c.from_residual-in_err-draw.result (λ x. IsStartFault (refusal_of x) → Rises (seen c.args.sink.now).refusals (seen c.draw.new.sink).refusals) e c.from_residual-in_err-draw.ensures
    (λ fault. (drawing_refused (refusal_of e) _ _ _ _ _ _ _ _ c.in_err-draw.ensures.cause (on_terminal (seen c.args.sink.now).terminal c.in_ok-setup.ensures.terminal.1) c.in_ok-setup.ensures.ok c.in_ok-setup.ensures.stays c.in_err-draw.ensures.broken c.in_err-draw.ensures.rises).2)

pub returns-in_err-draw-clause-untouched : goal.returns-in_err-draw-clause-untouched
returns-in_err-draw-clause-untouched g c =
    let seen = g.S.OutputSink.seen in
    let e = c.in_err-draw.field-0.0 in
    passed_on c.from_residual-in_err-draw.result (λ x. (IsStartFault (refusal_of x) → ⊥) → _) e c.from_residual-in_err-draw.ensures
    (λ none. absurd (none (drawing_refused (refusal_of e) _ _ _ _ _ _ _ _ c.in_err-draw.ensures.cause (on_terminal (seen c.args.sink.now).terminal c.in_ok-setup.ensures.terminal.1) c.in_ok-setup.ensures.ok c.in_ok-setup.ensures.stays c.in_err-draw.ensures.broken c.in_err-draw.ensures.rises).3))
