use Rattle.minus_state.proofs.QueryEditorLaws.{first_within}
use Rattle.minus_state.proofs.search.words.first_above.Goals as goal

pub returns-clause-within : goal.returns-clause-within
returns-clause-within c = λ one h. rw c.first_of.ensures (first_within c.args.end c.args.place c.args.places.now one h)
