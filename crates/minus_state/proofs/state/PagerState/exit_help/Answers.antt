-- The change is put in its place.
use Rattle.std.proofs.lemmas.Result.{on_ok_weaker}
use Rattle.minus_state.proofs.ChangeLaws.{formed_after}
use Rattle.minus_state.proofs.state.PagerState.exit_help.Goals as goal

pub returns-clause-control : goal.returns-clause-control
returns-clause-control c = on_ok_weaker c.place.result (λ placed f. placed _ f (c.in_ok-change.ensures.next f)) c.place.ensures.control

pub returns-clause-formed : goal.returns-clause-formed
returns-clause-formed c = formed_after c.place.result c.args.self.now c.place.new.self c.in_ok-change.change _ c.place.ensures.formed c.place.ensures.still c.in_ok-change.ensures.next
