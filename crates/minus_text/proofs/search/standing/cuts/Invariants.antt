-- Where the places that are left lie in order, all do.
use Rattle.std.proofs.Common.{drop, IsCharBoundary}
use Rattle.minus_text.specs.Escapes.{CutsText}
use Rattle.minus_text.proofs.search.standing.cuts.Given as goal

abbrev pub invariant-loop-place : goal.invariant-loop-place
invariant-loop-place l =
    IsCharBoundary l.text l.at × (CutsText l.text l.at (drop l.place-index l.places) → CutsText l.text 0 l.places)
