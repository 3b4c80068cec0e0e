-- The parts of the matches so far, and those of the others, are those of all.
use Rattle.std.proofs.Common.{◌≡◌, ◌++◌, drop}
use Rattle.minus_text.specs.LineFinds.{parts_in}
use Rattle.minus_text.specs.LineSplits.{stretch_of}
use Rattle.minus_text.proofs.search.line_splits.RowStretch.parts_in.Given as goal

abbrev pub invariant-loop-m : goal.invariant-loop-m
invariant-loop-m l = l.parts.items ++ parts_in (stretch_of l.self) (drop l.m-index l.matches) ≡ parts_in (stretch_of l.self) l.matches
