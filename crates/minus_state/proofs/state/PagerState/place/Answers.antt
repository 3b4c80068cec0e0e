-- The state holds the control that the change leads to, and is formed.
use Rattle.std.proofs.lemmas.Result.{on_ok_weaker}
use Rattle.minus_state.proofs.ChangeLaws.{placed, formed_placed}
use Rattle.minus_state.proofs.state.PagerState.place.Goals as goal

pub returns-clause-control : goal.returns-clause-control
returns-clause-control c = on_ok_weaker c.place_into.result (λ p new f h. placed c.args.self.now c.place_into.new.state c.args.change new f h p) c.place_into.ensures.placed

pub returns-clause-formed : goal.returns-clause-formed
returns-clause-formed c = on_ok_weaker c.place_into.result (λ p new f h. formed_placed c.args.self.now c.place_into.new.state c.args.change new f h p) c.place_into.ensures.placed
