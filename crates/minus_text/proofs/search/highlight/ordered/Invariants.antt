use Rattle.std.proofs.Common.{◌≡◌, ◌++◌, ◌≤◌, map, length, drop}
use Rattle.minus_text.specs.Escapes.{insert_of}
use Rattle.minus_text.specs.Highlight.{ordered}
use Rattle.minus_text.proofs.search.highlight.ordered.Given as goal

abbrev pub invariant-loop-place : goal.invariant-loop-place
invariant-loop-place l =
    (map insert_of l.puts.items ++ ordered l.accurate (drop l.place-index l.matches) (map insert_of (drop l.done l.escapes)) ≡ ordered l.accurate l.matches (map insert_of l.escapes))
    × (l.done ≤ length l.escapes)
