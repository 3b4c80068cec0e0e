use Rattle.std.proofs.Common.{arith}
use Rattle.minus_state.proofs.QueryEditorLaws.{last_within}
use Rattle.minus_state.proofs.search.words.last_below.Goals as goal

pub returns-clause-within : goal.returns-clause-within
returns-clause-within c = λ end one h. rw c.last_of.ensures (last_within end c.args.place 1 c.args.places.now (omega arith) one h)
