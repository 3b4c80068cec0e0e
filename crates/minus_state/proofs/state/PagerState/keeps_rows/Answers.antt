-- The margins are as wide where the prefixes are.
use Rattle.std.proofs.Common.{Bool, ℕ, ◌==◌, ap, ap₂, ◌∙◌}
use Rattle.minus_text.specs.Document.{Document, line_count}
use Rattle.minus_text.specs.NumberPrefix.{is_on, prefix_columns}
use Rattle.minus_text.specs.Searched.{Searched}
use Rattle.minus_text.specs.declared.layout.Layout.{Layout}
use Rattle.minus_state.specs.NextTexts.{next_document}
use Rattle.minus_state.proofs.AppendLaws.{prefixes_alike}
use Rattle.minus_state.proofs.state.PagerState.keeps_rows.Goals as goal

pub returns : goal.returns
returns c =
    let old : Document = c.args.self.now.screen.document in
    let new : Document = next_document old c.args.next.now in
    let document = ap (λ (x : Searched). x.document) c.view-view.ensures in
    let numbers = c.is_on.ensures ∙ ap (λ (l : Layout). is_on l.numbers) c.layout.ensures ∙ ap (λ (d : Document). is_on d.layout.numbers) document in
    let after = c.prefix_columns-after.ensures.value ∙ ap (λ (b : Bool). prefix_columns b c.line_count.result) numbers ∙ ap (λ (n : ℕ). prefix_columns (is_on new.layout.numbers) n) (c.line_count.ensures ∙ ap (λ (d : Document). line_count d) document) in
    ap₂ (λ (a b : ℕ). a == b) after c.prefix.ensures ∙ prefixes_alike new.layout.numbers old.layout.numbers (line_count new) (line_count old)
