-- What is left to look at gives what all do.
use Rattle.std.proofs.Common.{◌≡◌, drop}
use Rattle.minus_state.specs.QueryEditor.{first_above}
use Rattle.minus_state.proofs.search.words.first_of.Given as goal

abbrev pub invariant-loop-start : goal.invariant-loop-start
invariant-loop-start l = first_above l.place l.end l.places ≡ first_above l.place l.end (drop l.start-index l.places)
