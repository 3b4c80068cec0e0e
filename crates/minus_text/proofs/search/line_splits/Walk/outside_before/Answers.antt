use Rattle.std.proofs.Common.{◌+◌, ◌-◌, ap, ◌∙◌, refl, get_or}
use Rattle.minus_text.proofs.LineSplitLaws.{counted_to}
use Rattle.minus_text.proofs.search.line_splits.Walk.outside_before.Goals as goal

pub returns : goal.returns
returns c =
    let w = c.args.self in
    let places = c.args.places.now in
    let more = c.if-self-places.false in
    ap (λ e. w.outside + (e - w.at)) c.min-end.ensures
    ∙ counted_to places w c.args.x c.requires.walk c.requires.on more (get_or places w.passed (0, 0)) refl (c.requires.far more)
