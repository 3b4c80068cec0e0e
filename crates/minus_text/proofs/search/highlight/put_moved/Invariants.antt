use Rattle.std.proofs.Common.{◌≡◌, ◌++◌, map, take}
use Rattle.minus_text.specs.Escapes.{insert_of}
use Rattle.minus_text.specs.Highlight.{moved}
use Rattle.minus_text.proofs.search.highlight.put_moved.Given as goal

abbrev pub invariant-loop-escape : goal.invariant-loop-escape
invariant-loop-escape l = map insert_of l.puts.items ≡ map insert_of l.fn.puts.items ++ moved l.place (map insert_of (take l.escape-index l.escapes))
