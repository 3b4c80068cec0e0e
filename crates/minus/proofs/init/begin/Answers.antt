-- What the commands registered is kept first.
use Rattle.std.proofs.Common.{Some, subst}
use Rattle.std.proofs.lemmas.Result.{IfOk-weaker}
use Rattle.minus_term.specs.declared.hooks.Hook.TheVariants.{PrePagerStart}
use Rattle.minus_commands.specs.Callbacks.{Callbacks, callbacks_of, with_commands, CallsHook}
use Rattle.minus.proofs.BeginLaws.{begins, begins_not}
use Rattle.minus.proofs.init.begin.Goals as goal

pub returns-clause-started : goal.returns-clause-started
returns-clause-started g c =
    let ready = c.prepare-ready.ensures in
    begins g.S.OutputSink.seen c.args.pager c.args.mode c.args.sink c.args.first.parts c.prepare-ready.result.parts c.open.result (record { kept_first = c.requires.kept; none_first = c.requires.condition; state = ready.state; kept = ready.kept; classifier = ready.classifier; condition = ready.condition }) c.open.ensures.opened

pub returns-clause-refused : goal.returns-clause-refused
returns-clause-refused g c =
    let ready = c.prepare-ready.ensures in
    begins_not g.S.OutputSink.seen c.args.pager c.args.mode c.args.sink c.args.first.parts c.prepare-ready.result.parts c.open.result (record { kept_first = c.requires.kept; none_first = c.requires.condition; state = ready.state; kept = ready.kept; classifier = ready.classifier; condition = ready.condition }) c.open.ensures.refused

pub returns-clause-called : goal.returns-clause-called
returns-clause-called g c =
    let ready = c.prepare-ready.result.parts in
    let first = subst (λ (k : Callbacks _ _). CallsHook (Some PrePagerStart) (with_commands k c.args.pager.queue.items) (callbacks_of ready)) c.requires.callbacks c.prepare-ready.ensures.called in
    IfOk-weaker c.open.result _ _ (λ s h. record { before = callbacks_of ready; first = first; then = h }) c.open.ensures.called
