-- The prefix, and what is cropped of the text.
use Rattle.std.proofs.Common.{◌++◌, List, ℕ, append-nil, append_assoc, ap, ◌∙◌}
use Rattle.minus_text.specs.declared.crop.Window.{Window}
use Rattle.minus_text.specs.Crop.{cropped}
use Rattle.minus_text.specs.Formatted.{prefix_of}
use Rattle.minus_text.specs.MatchedTexts.{text_within}
use Rattle.minus_state.specs.ShownRow.{line_prefix}
use Rattle.minus_state.proofs.frame.Frame.write_cropped.Goals as goal

pub returns : goal.returns
returns c = λ d left e.
    let old = c.args.out.now.items in
    let shown = λ (w : Window). cropped w.left w.width (text_within w.left w.width c.args.text) in
    let numbered = ap (λ (bs : List ℕ). prefix_of c.line.result.prefix ++ bs) c.line.ensures.row ∙ append-nil (prefix_of c.line.result.prefix) ∙ c.line.ensures.prefix d left e in
    c.in_ok-write_cropped.ensures ∙ ap (λ (bs : List ℕ). bs ++ shown c.window.result) (c.in_ok-write_to.ensures ∙ ap (λ (bs : List ℕ). old ++ bs) numbered)
    ∙ append_assoc old (line_prefix d c.args.i) (shown c.window.result)
    ∙ ap (λ (w : Window). old ++ (line_prefix d c.args.i ++ shown w)) (c.window.ensures d left e)
