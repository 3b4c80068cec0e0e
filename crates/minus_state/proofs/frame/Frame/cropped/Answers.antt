-- The prefix, and what is cropped of the text.
use Rattle.std.proofs.Common.{◌++◌, List, ℕ, append-nil, ap, ◌∙◌}
use Rattle.minus_text.specs.declared.crop.Window.{Window}
use Rattle.minus_text.specs.Crop.{cropped}
use Rattle.minus_text.specs.Formatted.{prefix_of}
use Rattle.minus_text.specs.MatchedTexts.{text_within}
use Rattle.minus_state.specs.ShownRow.{line_prefix}
use Rattle.minus_state.proofs.frame.Frame.cropped.Goals as goal

pub returns : goal.returns
returns c = λ d left e.
    let shown = λ (w : Window). cropped w.left w.width (text_within w.left w.width c.args.text) in
    let numbered = c.in_ok-row.ensures ∙ ap (λ (bs : List ℕ). prefix_of c.line.result.prefix ++ bs) c.line.ensures.row ∙ append-nil (prefix_of c.line.result.prefix) in
    c.in_ok-push_cropped.ensures ∙ ap (λ (bs : List ℕ). bs ++ shown c.window.result) (numbered ∙ c.line.ensures.prefix d left e)
    ∙ ap (λ (w : Window). line_prefix d c.args.i ++ shown w) (c.window.ensures d left e)
