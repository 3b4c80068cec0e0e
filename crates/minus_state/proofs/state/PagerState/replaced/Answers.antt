-- While help is open, what is saved is replaced; else the displayed text is.
use Rattle.std.proofs.Common.{string_bytes, rules, sym, ◌∙◌}
use Rattle.std.proofs.lemmas.Result.{IfOk-weaker}
use Rattle.minus_state.specs.States.{control_of}
use Rattle.minus_state.proofs.ChangeLaws.{leads_to}
use Rattle.minus_state.proofs.HelpTextLaws.{text_replaced}
use Rattle.minus_state.proofs.state.PagerState.replaced.Goals as goal

pub returns-then-help_open-clause-next : goal.returns-then-help_open-clause-next
returns-then-help_open-clause-next c = search rules

pub returns-clause-next : goal.returns-clause-next
returns-clause-next c =
    let same = text_replaced (control_of c.args.self.now) (string_bytes c.args.text) (sym c.help_open.ensures ∙ c.if-help_open.false) in
    IfOk-weaker c.with_text.result _ _ (λ x h. leads_to c.args.self.now x _ _ same h) c.with_text.ensures.next
