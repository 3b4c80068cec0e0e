-- The characters so far do not begin an end that fits.
use Rattle.std.proofs.Common.{◌≡◌, drop}
use Rattle.minus_view.specs.PromptPlace.{end_within}
use Rattle.minus_view.proofs.prompt_place.end_within.Given as goal

abbrev pub invariant-loop-at : goal.invariant-loop-at
invariant-loop-at l = end_within l.room (drop l.at l.characters) ≡ end_within l.room l.characters
