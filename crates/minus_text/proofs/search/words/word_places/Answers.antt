use Rattle.std.proofs.Common.{◌∙◌, ap}
use Rattle.minus_text.specs.FixedPatterns.{match_places}
use Rattle.minus_text.specs.WordStarts.{word_places}
use Rattle.minus_text.proofs.search.words.word_places.Goals as goal

pub returns-clause-found : goal.returns-clause-found
unfolding word_places
returns-clause-found c =
    c.in_ok-places.ensures.found ∙ ap (λ re. match_places re c.args.text.now) c.in_ok-matcher.ensures.pattern
    ∙ c.args.patterns.now.word_matches c.args.text.now (λ k. (c.type_inv.text k).fits)
