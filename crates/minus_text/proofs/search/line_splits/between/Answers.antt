use Rattle.std.proofs.Common.{◌++◌, ap, sym, ◌∙◌}
use Rattle.std.proofs.lemmas.List.{append-nil}
use Rattle.minus_text.proofs.LineSplitLaws.{none_beyond}
use Rattle.minus_text.proofs.search.line_splits.between.Goals as goal

pub returns-then-place-end : goal.returns-then-place-end
returns-then-place-end c =
    let parts = c.loop-place.parts.items in
    let none = none_beyond c.args.places.now c.loop-place.place-index c.loop-place-test.true c.requires c.args.start c.args.end c.if-place-end.true in
    sym (append-nil parts) ∙ ap (λ l. parts ++ l) (sym none) ∙ c.loop-place.invariant
