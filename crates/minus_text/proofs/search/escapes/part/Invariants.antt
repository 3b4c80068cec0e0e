use Rattle.std.proofs.Common.{◌≡◌, map, drop, length, ◌++◌, string_bytes}
use Rattle.minus_text.specs.Escapes.{outside, inside, insert_of, CutsText}
use Rattle.minus_text.proofs.search.escapes.part.Given as goal

abbrev pub invariant-loop-place : goal.invariant-loop-place
invariant-loop-place l =
    (string_bytes l.text ++ outside l.line l.at (drop l.place-index l.places) ≡ outside l.line 0 l.places)
    × (map insert_of l.escapes.items ++ inside l.line l.at (length (string_bytes l.text)) (drop l.place-index l.places) ≡ inside l.line 0 0 l.places)
    × CutsText l.line l.at (drop l.place-index l.places)
