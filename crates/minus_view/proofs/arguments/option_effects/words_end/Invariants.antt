-- The bytes so far end at this place.
use Rattle.std.proofs.Common.{◌≡◌, drop}
use Rattle.minus_view.specs.Paging.{words_end}
use Rattle.minus_view.proofs.arguments.option_effects.words_end.Given as goal

abbrev pub invariant-loop-at : goal.invariant-loop-at
invariant-loop-at l = words_end l.at l.end (drop l.at l.bytes) ≡ words_end 0 0 l.bytes
