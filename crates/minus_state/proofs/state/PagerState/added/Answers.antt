-- While help is open, what is saved goes on; else the displayed text does.
use Rattle.std.proofs.Common.{Bool, string_bytes, if◌then◌else◌, ap, rules, sym, ◌∙◌}
use Rattle.std.proofs.lemmas.Result.{IfOk-weaker}
use Rattle.minus_state.specs.declared.change.Redraw.TheVariants.{Stays}
use Rattle.minus_state.specs.RedrawExtent.{append_redraw}
use Rattle.minus_state.specs.States.{control_of}
use Rattle.minus_state.proofs.ChangeLaws.{leads_to}
use Rattle.minus_state.proofs.HelpTextLaws.{text_added}
use Rattle.minus_state.proofs.state.PagerState.added.Goals as goal

pub returns-then-help_open-clause-next : goal.returns-then-help_open-clause-next
returns-then-help_open-clause-next c = search rules

pub returns-clause-next : goal.returns-clause-next
returns-clause-next c =
    let same = text_added (control_of c.args.self.now) (string_bytes c.args.text) (sym c.help_open.ensures ∙ c.if-help_open.false) in
    IfOk-weaker c.appended.result _ _ (λ x h. leads_to c.args.self.now x _ _ same h) c.appended.ensures.next

pub returns-clause-redraw : goal.returns-clause-redraw
returns-clause-redraw c =
    IfOk-weaker c.appended.result _ _ (λ x h f. h f ∙ ap (λ (b : Bool). if b then Stays else append_redraw (control_of c.args.self.now) (string_bytes c.args.text)) c.if-help_open.ensures) c.appended.ensures.redraw
