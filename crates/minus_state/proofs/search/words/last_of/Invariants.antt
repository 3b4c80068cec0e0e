-- What is left to look at gives what all do.
use Rattle.std.proofs.Common.{◌≡◌, drop}
use Rattle.minus_state.specs.QueryEditor.{last_below}
use Rattle.minus_state.proofs.search.words.last_of.Given as goal

abbrev pub invariant-loop-start : goal.invariant-loop-start
invariant-loop-start l = last_below l.place 1 l.places ≡ last_below l.place l.last (drop l.start-index l.places)
