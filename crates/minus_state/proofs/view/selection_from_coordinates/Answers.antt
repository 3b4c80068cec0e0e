-- The end that a place of the page selects.
use Rattle.std.proofs.Common.{rules, ap, ◌∙◌}
use Rattle.minus_text.specs.Searched.{Searched}
use Rattle.minus_state.specs.Frame.{frame_of}
use Rattle.minus_state.proofs.view.selection_from_coordinates.Goals as goal

pub returns : goal.returns
returns c =
    let left = c.args.view.left_mark in
    let frame = c.of-frame.ensures ∙ ap (λ (s : Searched). frame_of s.document left) c.view.ensures in
    search (rules, c.prefix.ensures c.args.screen.now.document left frame, c.cut.ensures c.args.screen.now.document left frame)
