-- The change was not drawn, or its drawing is whole or broken off.
use Rattle.std.proofs.Common.{Bool, Option, is_some, ◌≤◌, string_bytes, sym, ap, subst, ◌∙◌}
use Rattle.std.specs.Option.{option_map}
use Rattle.minus_state.proofs.RefusalLaws.{passed_on}
use Rattle.minus_term.specs.declared.hooks.Hook.{Hook}
use Rattle.minus_state.specs.Control.{Control}
use Rattle.minus_state.specs.States.{control_of}
use Rattle.minus_commands.specs.Callbacks.{Callbacks, callbacks_of, CallsHook}
use Rattle.minus_commands.specs.Table.{end_hook, is_at_end}
use Rattle.minus.specs.Core.{seen_of}
use Rattle.minus.specs.Works.{IsTakenBy}
use Rattle.minus_commands.specs.Reads.{Told}
use Rattle.minus.specs.Says.{says_of}
use Rattle.minus.specs.Seen.{Seen}
use Rattle.minus.specs.SessionSteps.{IsUntakenOf}
use Rattle.minus_draw.specs.Drawn.{Work}
use Rattle.minus.proofs.StepLaws.{drawable_by, drawn_take, broken_take}
use Rattle.minus.proofs.session.Core.change.Goals as goal

pub returns-clause-taken : goal.returns-clause-taken
returns-clause-taken g c told work t =
    let applied = c.in_ok-copied.ensures in
    let written = c.in_ok-write_drawing.ensures in
    let old = seen_of c.args.self.now in
    let seen = c.call_hook.ensures.seen ∙ ap seen_of written.rest in
    let left = seen ∙ applied.done work.left t.leads in
    let some = subst (λ (x : Seen _ _). 1 ≤ x.control.rows) (sym seen) applied.size.some_rows in
    let drawn = applied.drawn work.left t.leads (drawable_by _ old told c.args.outcome work t) in
    record {
      took = drawn_take _ old _ told c.args.outcome work _ _ _ _ c.apply.new.self.drawing.items t some left drawn
          (ap (λ s. (g.S.OutputSink.seen s).bytes) applied.sink) (let h = written.ok in rw c.call_hook.ensures.sink h) (ap (option_map string_bytes) applied.copied);
      stays = let h = written.stays in rw (c.call_hook.ensures.sink, ← applied.sink) h;
    }

pub returns-in_err-write_drawing-clause-refused : goal.returns-in_err-write_drawing-clause-refused
returns-in_err-write_drawing-clause-refused g c =
    let says = says_of g.P.Condition.ConditionCall.judges g.P.Classifier.InputClassifier.says in
    let old = seen_of c.args.self.now in
    passed_on c.from_residual-in_err-write_drawing.result (λ e. (told : Told _ _) → (work : Work) → IsTakenBy says old told c.args.outcome work → IsUntakenOf g.S.OutputSink.seen says c.args.self.now told c.write_drawing.new.self e)
    c.in_err-write_drawing.field-0.0 c.from_residual-in_err-write_drawing.ensures (λ told work t. (
    let applied = c.in_ok-copied.ensures in
    let broken = c.in_err-write_drawing.ensures in
    let left = applied.done work.left t.leads in
    let drawn = applied.drawn work.left t.leads (drawable_by _ old told c.args.outcome work t) in
    let sink = ap (λ s. (g.S.OutputSink.seen s).bytes) applied.sink in
    let fails = broken_take _ old (seen_of c.apply.new.self) _ told c.args.outcome work _ _ _ c.apply.new.self.drawing.items t applied.size.some_rows broken.some left broken.fails drawn sink broken.front in
    record {
      fails = rw broken.cause fails;
      rises = λ fault. (let h = broken.rises in rw (ap (λ s. (g.S.OutputSink.seen s).refusals) applied.sink) at h);
      untouched = λ quiet. absurd (quiet (rw broken.cause tt));
    }
    ))

pub returns-clause-called : goal.returns-clause-called
returns-clause-called g c next leads =
    let applied = c.in_ok-copied.ensures in
    let written = c.in_ok-write_drawing.ensures in
    let left = callbacks_of c.call_hook.new.self.parts in
    let control = ap (λ s. (seen_of s).control) written.rest ∙ ap (λ (x : Seen _ _). x.control) (applied.done next leads) in
    let due = c.end_hook-hook.ensures c.write_drawing.new.self.formed ∙ ap (λ (b : Bool). end_hook b (is_at_end (control_of c.write_drawing.new.self.parts.state))) c.is_some-is_move.ensures ∙ ap (λ (k : Control). end_hook (is_some c.args.outcome.moves_to) (is_at_end k)) control in
    let kept = c.write_drawing.ensures.callbacks ∙ c.apply.ensures.callbacks in
    subst (λ (h : Option Hook). CallsHook h (callbacks_of c.args.self.now.parts) left) due (subst (λ (k : Callbacks _ _). CallsHook c.end_hook-hook.result k left) kept c.call_hook.ensures.called)
