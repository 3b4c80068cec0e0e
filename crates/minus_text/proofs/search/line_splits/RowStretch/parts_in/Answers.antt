use Rattle.std.proofs.Common.{◌++◌, ap, sym, ◌∙◌}
use Rattle.std.proofs.lemmas.List.{append-nil}
use Rattle.minus_text.specs.LineSplits.{stretch_of}
use Rattle.minus_text.proofs.LineSplitLaws.{none_later}
use Rattle.minus_text.proofs.search.line_splits.RowStretch.parts_in.Goals as goal

pub returns-then-not-is_before : goal.returns-then-not-is_before
returns-then-not-is_before c =
    let parts = c.loop-m.parts.items in
    let none = none_later c.args.matches.now c.loop-m.m-index c.loop-m-test.true c.requires (stretch_of c.args.self) (sym c.is_before.ensures ∙ c.if-not-is_before.true) in
    sym (append-nil parts) ∙ ap (λ l. parts ++ l) (sym none.0) ∙ c.loop-m.invariant
