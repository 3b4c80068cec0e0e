use Rattle.std.proofs.Common.{length, refl, ap, ap₂, ◌∙◌}
use Rattle.minus_text.specs.Escapes.{stripped, outside}
use Rattle.minus_text.specs.FixedPatterns.{match_places}
use Rattle.minus_text.proofs.search.found.Finder.find.Goals as goal

pub returns-clause-matches : goal.returns-clause-matches
unfolding stripped
returns-clause-matches c =
    c.in_ok-matches.ensures.found ∙ ap₂ match_places c.escape_places.ensures.same (ap (outside c.args.row.now 0) (c.deref.ensures.value ∙ c.in_ok-escapes.ensures.found))

pub returns-clause-row : goal.returns-clause-row
returns-clause-row c = refl

pub returns-clause-begins : goal.returns-clause-begins
unfolding stripped
returns-clause-begins c =
    let found = c.in_ok-matches.ensures.found ∙ ap₂ match_places c.escape_places.ensures.same (ap (outside c.args.row.now 0) (c.deref.ensures.value ∙ c.in_ok-escapes.ensures.found)) in
    c.len-begins.ensures ∙ c.in_ok-matches.matches.ok.0 ∙ ap length found
