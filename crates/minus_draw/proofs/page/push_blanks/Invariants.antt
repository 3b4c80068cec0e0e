-- The blank rows so far.
use Rattle.std.proofs.Common.{◌≡◌, ◌++◌, [], map, replicate, string_bytes}
use Rattle.minus_draw.proofs.page.push_blanks.Given as goal

abbrev pub invariant-loop-blank : goal.invariant-loop-blank
invariant-loop-blank l = map string_bytes l.rows.items ≡ map string_bytes l.fn.rows.items ++ replicate l._blank []
