-- What is formed of its own text stands in the old one's place.
use Rattle.std.proofs.Common.{◌≡◌, ap, subst, ◌∙◌}
use Rattle.minus_text.specs.FormatResults.{TellsAll}
use Rattle.minus_text.specs.FoundRows.{pattern_of}
use Rattle.minus_text.specs.Searched.{Searched, searched}
use Rattle.minus_text.proofs.screen.Screen.reform.Goals as goal

pub returns-clause-ok : goal.returns-clause-ok
returns-clause-ok c =
    let same : c.orig_text.result.now ≡ c.args.self.now.document.text = c.orig_text.ensures ∙ ap (λ (s : Searched). s.document.text) c.self.view_is in
    c.drop.view_is ∙ c.in_ok-fresh.ensures.ok ∙ ap (λ t. searched (pattern_of c.args.term) (record { text = t; layout = c.args.layout })) same

pub returns-clause-told : goal.returns-clause-told
returns-clause-told c =
    let same : c.orig_text.result.now ≡ c.args.self.now.document.text = c.orig_text.ensures ∙ ap (λ (s : Searched). s.document.text) c.self.view_is in
    subst (λ t. TellsAll c.in_ok-fresh.told (pattern_of c.args.term) (record { text = t; layout = c.args.layout })) same c.in_ok-fresh.ensures.told
