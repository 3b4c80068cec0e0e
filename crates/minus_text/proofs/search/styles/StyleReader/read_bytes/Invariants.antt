-- What is left is read as the whole.
use Rattle.std.proofs.Common.{◌≡◌, length}
use Rattle.minus_text.specs.Styles.{read_all}
use Rattle.minus_text.proofs.search.styles.StyleReader.read_bytes.Given as goal

abbrev pub invariant-loop-first : goal.invariant-loop-first
invariant-loop-first l = read_all l.self l.rest ≡ read_all l.initial.self l.bytes

abbrev pub decreases-loop-first : goal.decreases-loop-first
decreases-loop-first l = length l.rest
