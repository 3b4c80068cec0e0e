-- The characters so far left this many columns.
use Rattle.std.proofs.Common.{◌≡◌, drop}
use Rattle.minus_view.specs.PromptPlace.{fits}
use Rattle.minus_view.proofs.prompt_place.fits.Given as goal

abbrev pub invariant-loop-c : goal.invariant-loop-c
invariant-loop-c l = fits l.left (drop l.c-index l.characters) ≡ fits l.room l.characters
