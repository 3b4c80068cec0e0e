-- Help is opened, since it is not open.
use Rattle.std.proofs.Common.{sym, ap, ◌∙◌}
use Rattle.std.proofs.lemmas.Result.{on_ok_weaker}
use Rattle.minus_state.specs.Control.{Control}
use Rattle.minus_state.specs.Help.{opened}
use Rattle.minus_state.specs.States.{control_of}
use Rattle.minus_state.proofs.HelpTextLaws.{help_shown}
use Rattle.minus_state.proofs.ChangeLaws.{formed_after}
use Rattle.minus_state.proofs.state.PagerState.show_help.Goals as goal

pub returns-clause-control : goal.returns-clause-control
returns-clause-control c =
    let k : Control = control_of c.args.self.now in
    let same = ap (opened k) c.in_ok-from_str.ensures.ok ∙ help_shown k k.help c.args.text.now (sym c.help_open.ensures ∙ c.if-help_open.false) in
    on_ok_weaker c.place.result (λ placed f. placed _ f (c.in_ok-change.ensures.next f) ∙ same) c.place.ensures.control

pub returns-clause-formed : goal.returns-clause-formed
returns-clause-formed c = formed_after c.place.result c.args.self.now c.place.new.self c.in_ok-change.change _ c.place.ensures.formed c.place.ensures.still c.in_ok-change.ensures.next
