-- Help is opened on the text, or on none, since it is not open.
use Rattle.std.proofs.Common.{[], Option, string_bytes, sym, ap, ◌∙◌}
use Rattle.std.specs.Option.{option_map, unwrap_or}
use Rattle.std.proofs.lemmas.Result.{IfOk-weaker}
use Rattle.minus_state.specs.declared.state.help.Saved.{Saved}
use Rattle.minus_state.specs.Aside.{aside_of}
use Rattle.minus_state.specs.Control.{Control}
use Rattle.minus_state.specs.Help.{opened, help_toggled}
use Rattle.minus_state.specs.States.{control_of}
use Rattle.minus_state.proofs.ChangeLaws.{leads_to, typed_after}
use Rattle.minus_state.proofs.state.PagerState.help_toggled.Goals as goal

pub returns-clause-next : goal.returns-clause-next
returns-clause-next c =
    let k : Control = control_of c.args.self.now in
    let text = ap string_bytes c.unwrap_or.ensures ∙ typed_after c.args.text c.new.result ∙ ap (unwrap_or (option_map string_bytes c.args.text)) c.new.ensures.bytes in
    let same = ap (opened k) text ∙ sym (ap (λ (saved : Option Saved). help_toggled k (aside_of saved) (unwrap_or (option_map string_bytes c.args.text) [])) c.in_default.is) in
    IfOk-weaker c.helped.result _ _ (λ x h. leads_to c.args.self.now x _ _ same h) c.helped.ensures.next
