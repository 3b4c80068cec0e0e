-- A row matches where its text without its escape sequences does.
use Rattle.std.proofs.Common.{ap, ap₂, ◌∙◌}
use Rattle.std.proofs.lemmas.Result.{IfOk-weaker}
use Rattle.minus_text.specs.Escapes.{stripped, outside}
use Rattle.minus_text.specs.Highlight.{line_matches, matches_text}
use Rattle.minus_text.proofs.search.found.Finder.matches.Goals as goal

pub returns-clause-value : goal.returns-clause-value
unfolding line_matches stripped
returns-clause-value c =
    let places = c.deref.ensures.value ∙ c.in_ok-escapes.ensures.found in
    IfOk-weaker c.matches_outside.result _ _ (λ b h. h ∙ ap₂ matches_text c.escape_places.ensures.same (ap (outside c.args.row.now 0) places)) c.matches_outside.ensures.value
