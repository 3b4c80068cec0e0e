use Rattle.minus_input.proofs.DefaultBindingsLaws.{defaults_answer_once}
use Rattle.minus_input.proofs.default_bindings.defaults_have_one_answer.Goals as goal

pub returns : goal.returns
returns g c = defaults_answer_once g.C.ActionCall.answers
