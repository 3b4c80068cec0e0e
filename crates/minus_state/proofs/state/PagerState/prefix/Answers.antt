-- The prefix of the rows of the screen.
use Rattle.std.proofs.Common.{ap, ◌∙◌}
use Rattle.minus_text.specs.Searched.{Searched}
use Rattle.minus_state.specs.Frame.{frame_of}
use Rattle.minus_state.proofs.state.PagerState.prefix.Goals as goal

pub returns : goal.returns
returns c =
    let left = c.args.self.now.left_mark in
    c.prefix.ensures c.args.self.now.screen.document left (c.of.ensures ∙ ap (λ (s : Searched). frame_of s.document left) c.view.ensures)
