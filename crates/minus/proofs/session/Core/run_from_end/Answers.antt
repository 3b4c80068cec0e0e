-- How far the list was performed, at each end.
use Rattle.std.proofs.Common.{length, reverse, sym, ap, ◌∙◌, arith}
use Rattle.std.proofs.lemmas.List.{length-append, length-reverse}
use Rattle.minus_term.proofs.SinkLaws.{Stays-trans}
use Rattle.minus_commands.specs.Reads.{told_of}
use Rattle.minus.specs.Core.{seen_of}
use Rattle.minus.proofs.StartLaws.{Stays-refl, Stays-rises}
use Rattle.minus.proofs.RunLaws.{not_yet, one_step, run_over, run_ended, run_stopped}
use Rattle.minus.proofs.session.Core.run_from_end.Goals as goal

pub loop-input-init : goal.loop-input-init
loop-input-init g c = (Stays-refl (g.S.OutputSink.seen c.args.self.now.sink).refusals, not_yet _ told_of (seen_of c.args.self.now) c.args.left.now.items (g.S.OutputSink.seen c.args.self.now.sink).bytes)

pub overflow_add-done : goal.overflow_add-done
overflow_add-done g c =
    let h = c.loop-input.invariant.1 in
    let parts = ap length h.all ∙ length-append h.taken (reverse c.loop-input.left.items) in
    let all = length-reverse c.args.left.now.items in
    let small = c.args.left.now.small in
    omega (arith, h.count, parts, all, small)

pub returns-then-ends_a_run : goal.returns-then-ends_a_run
returns-then-ends_a_run g c =
    let step = c.in-Ok.ensures.step in
    record {
      run = run_ended _ told_of (seen_of c.args.self.now) (seen_of c.loop-input.self) (seen_of c.step.new.self) (reverse c.args.left.now.items) c.loop-input.left.items c.pop.new.self.items c.in-Some.input c.loop-input.done _ _ _ _ _ c.loop-input.invariant.1 c.in-Some.ensures.items step.step (sym c.ends_a_run.ensures ∙ c.if-ends_a_run.true);
      stays = λ well. Stays-trans _ _ _ c.loop-input.invariant.0 step.stays;
      rises = λ fault. absurd fault;
    }

pub loop-input-preserved : goal.loop-input-preserved
loop-input-preserved g c =
    let step = c.in-Ok.ensures.step in
    (Stays-trans _ _ _ c.loop-input.invariant.0 step.stays, one_step _ told_of (seen_of c.args.self.now) (seen_of c.loop-input.self) (seen_of c.step.new.self) (reverse c.args.left.now.items) c.loop-input.left.items c.pop.new.self.items c.in-Some.input c.loop-input.done _ _ _ _ _ c.loop-input.invariant.1 c.in-Some.ensures.items step.step (sym c.ends_a_run.ensures ∙ c.if-ends_a_run.false))

pub returns-in-Err : goal.returns-in-Err
returns-in-Err g c =
    let refused = c.in-Err.ensures.refused in
    record {
      run = run_stopped _ told_of (seen_of c.args.self.now) (seen_of c.loop-input.self) (seen_of c.step.new.self) (reverse c.args.left.now.items) c.loop-input.left.items c.pop.new.self.items c.in-Some.input c.loop-input.done _ c.in-Err.refusal _ _ _ c.loop-input.invariant.1 c.in-Some.ensures.items refused.refuses;
      stays = λ well. Stays-trans _ _ _ c.loop-input.invariant.0 (refused.stays well);
      rises = λ fault. Stays-rises _ _ _ c.loop-input.invariant.0 (refused.rises fault);
    }

pub returns : goal.returns
returns g c =
    let none = c.in_default.ensures.cases in
    let len = c.pop.new.self.ok.0 in
    record {
      run = run_over _ told_of (seen_of c.args.self.now) (seen_of c.loop-input.self) (reverse c.args.left.now.items) c.loop-input.left.items c.pop.new.self.items c.loop-input.done _ _ _ c.loop-input.invariant.1 c.in_default.ensures.items (omega (arith, none.1, len));
      stays = λ well. c.loop-input.invariant.0;
      rises = λ fault. absurd fault;
    }
