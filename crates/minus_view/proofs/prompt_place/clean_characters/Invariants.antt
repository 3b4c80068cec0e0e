-- The characters so far are shown.
use Rattle.std.proofs.Common.{◌≡◌}
use Rattle.std.specs.List.{flat_map}
use Rattle.minus_view.specs.PromptPlace.{shown_as}
use Rattle.minus_view.proofs.prompt_place.clean_characters.Given as goal

abbrev pub invariant-loop-c : goal.invariant-loop-c
invariant-loop-c l = l.shown.items ≡ flat_map shown_as l.yielded
