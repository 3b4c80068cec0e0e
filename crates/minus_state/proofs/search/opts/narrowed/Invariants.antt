-- The places so far, and those to come, of which each is small.
use Rattle.std.proofs.Common.{◌≡◌, take, drop}
use Rattle.minus_text.specs.WordStarts.{AreWithin}
use Rattle.minus_state.proofs.search.opts.narrowed.Given as goal

abbrev pub invariant-loop-place : goal.invariant-loop-place
invariant-loop-place l = (l.seen.items ≡ take l.place-index l.places) × AreWithin 65535 (drop l.place-index l.places)
