-- What numbers take before the push and after it.
use Rattle.std.proofs.Common.{◌≡◌, length, ap, ◌∙◌}
use Rattle.std.specs.Str.Lines.{lines}
use Rattle.std.proofs.lemmas.List.{append-nil}
use Rattle.minus_text.specs.declared.layout.Layout.{Layout}
use Rattle.minus_text.specs.Layouts.{margin, wrapped}
use Rattle.minus_text.specs.Document.{Document}
use Rattle.minus_text.proofs.PushedLaws.{plan_is}
use Rattle.minus_text.proofs.store.Store.plan.Goals as goal

pub returns : goal.returns
returns c =
    let layout : c.self.inside.layout ≡ c.args.self.now.layout = ap (λ (x : Document). x.layout) c.self.view_is in
    plan_is c.args.self.now c.args.piece.now c.args.numbers c.args.cols c.self.inside.layout c.margin_after-margin.result c.margin_after-old_margin.result c.stay.result c.of.result layout c.margin_after-margin.ensures.value
    (c.margin_after-old_margin.ensures.value ∙ ap (λ t. margin c.self.inside.layout.numbers (length (lines t))) (append-nil c.args.self.now.text) ∙ ap (λ (l : Layout). margin l.numbers (length (lines c.args.self.now.text))) layout)
    c.stay.ensures (c.of.ensures ∙ ap (λ n. wrapped c.self.inside.layout.wrapping n) c.saturating_sub.ensures)
