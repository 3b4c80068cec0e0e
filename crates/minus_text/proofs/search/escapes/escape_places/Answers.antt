use Rattle.std.proofs.Common.{◌∙◌, ap}
use Rattle.minus_text.specs.FixedPatterns.{match_places}
use Rattle.minus_text.proofs.search.escapes.escape_places.Goals as goal

pub returns-clause-found : goal.returns-clause-found
returns-clause-found c =
    c.in_ok-places.ensures.found ∙ ap (λ re. match_places re c.args.line.now) c.in_ok-matcher.ensures.pattern
    ∙ c.args.patterns.now.escape_matches c.args.line.now (λ k. (c.type_inv.line k).fits)
