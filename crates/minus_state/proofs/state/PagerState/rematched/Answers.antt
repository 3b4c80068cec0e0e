-- The displayed text is formed again in another layout.
use Rattle.std.proofs.Common.{List, ℕ, ap₂}
use Rattle.std.proofs.lemmas.Result.{IfOk-weaker}
use Rattle.minus_text.specs.declared.layout.Layout.{Layout}
use Rattle.minus_state.specs.Control.{Control, reformed}
use Rattle.minus_state.specs.States.{control_of}
use Rattle.minus_state.proofs.ChangeLaws.{leads_to}
use Rattle.minus_state.proofs.state.PagerState.rematched.Goals as goal

pub returns-clause-next : goal.returns-clause-next
returns-clause-next c =
    let k : Control = control_of c.args.self.now in
    let same = ap₂ (λ (t : List ℕ) (l : Layout). reformed (record k { text = t; numbers = l.numbers; wrapping = l.wrapping; match_lines = c.args.match_lines; carry_style = l.carry_style })) c.in_ok-copied_text.ensures c.layout.ensures in
    IfOk-weaker c.formed_anew.result _ _ (λ x h. leads_to c.args.self.now x _ _ same h) c.formed_anew.ensures.next
