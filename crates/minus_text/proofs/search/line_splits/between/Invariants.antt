-- The parts of the places so far, and those of the others, are those of all.
use Rattle.std.proofs.Common.{◌≡◌, ◌++◌, drop}
use Rattle.minus_text.specs.LineFinds.{between}
use Rattle.minus_text.proofs.search.line_splits.between.Given as goal

abbrev pub invariant-loop-place : goal.invariant-loop-place
invariant-loop-place l = l.parts.items ++ between l.start l.end (drop l.place-index l.places) ≡ between l.start l.end l.places
