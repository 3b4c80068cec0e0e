use Rattle.std.proofs.Common.{sym, ◌∙◌, arith}
use Rattle.minus_text.specs.LineSplits.{stretch_of}
use Rattle.minus_text.proofs.LineSplitLaws.{none_later}
use Rattle.minus_text.proofs.search.line_splits.RowStretch.begin_count.Goals as goal

pub returns-then-not-is_before-clause-value : goal.returns-then-not-is_before-clause-value
returns-then-not-is_before-clause-value c =
    let none = none_later c.args.matches.now c.loop-m.m-index c.loop-m-test.true c.requires (stretch_of c.args.self) (sym c.is_before.ensures ∙ c.if-not-is_before.true) in
    omega (arith, c.loop-m.invariant.so_far, none.1)
